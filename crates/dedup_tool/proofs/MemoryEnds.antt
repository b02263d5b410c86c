-- How a session over a new disk in memory ended, by how it was served.
use Rattle.std.proofs.Common.{◌≡◌, ◌⊎◌, inl, inr, ℕ, Bool, true, false, ◌==◌, if◌then◌else◌, refl, ap, subst, ◌∙◌}
use Rattle.disk_model.specs.Memory.{MemoryDisk, state_of}
use Rattle.session.specs.declared.status.Status.{Status}
use Rattle.session.specs.declared.status.Status.TheVariants.{OutOfMemory}
use Rattle.session.specs.declared.words.Look.{Look}
use Rattle.session.specs.declared.words.Word.{Word}
use Rattle.dedup_tool.specs.Ending.{by_memory}
use Rattle.dedup_tool.specs.Serving.{ServedFile, ServedLook, RanInMemory, LookedInMemory, blank}

-- want of memory stays want of memory
starved_out : (starved : ℕ) (served : Status) → served ≡ OutOfMemory → by_memory starved served ≡ OutOfMemory
starved_out starved served out = ap (by_memory starved) out ∙ by_test (starved == 0)
  where
    by_test : (b : Bool) → (if b then OutOfMemory else OutOfMemory) ≡ OutOfMemory
    by_test true = refl
    by_test false = refl

module _ (sectors : ℕ) (old new : MemoryDisk) (starved : ℕ) (served status : Status) (made : old ≡ blank sectors)
    (counted : starved ≡ new.starved) (ended : status ≡ by_memory starved served) where
  pub ran_in_memory : (word : Word) → ((served ≡ OutOfMemory) × (new ≡ old)) ⊎ ServedFile (state_of old) (state_of new) word served
      → (status ≡ OutOfMemory) ⊎ RanInMemory sectors word status
  ran_in_memory word (inl out) = inl (ended ∙ starved_out starved served out.0)
  ran_in_memory word (inr ran) = inr (record {
    disk = new;
    served = served;
    ended = ended ∙ ap (λ n. by_memory n served) counted;
    ran = subst (λ (d : MemoryDisk). ServedFile (state_of d) (state_of new) word served) made ran;
  })

  pub looked_in_memory : (look : Look) → ((served ≡ OutOfMemory) × (new ≡ old)) ⊎ ServedLook (state_of old) (state_of new) look served
      → (status ≡ OutOfMemory) ⊎ LookedInMemory sectors look status
  looked_in_memory look (inl out) = inl (ended ∙ starved_out starved served out.0)
  looked_in_memory look (inr looked) = inr (record {
    disk = new;
    served = served;
    ended = ended ∙ ap (λ n. by_memory n served) counted;
    looked = subst (λ (d : MemoryDisk). ServedLook (state_of d) (state_of new) look served) made looked;
  })
