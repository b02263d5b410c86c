-- The worked examples beside the runs, each computed by the checker or shown by cases.
use Rattle.std.specs.Prelude.{◌≡◌, ℕ, ◌≤◌, true, false, List, slice_index, Option, Some, None}
use Rattle.std.specs.Option.{option_map_or}
use Rattle.std.proofs.Common.{refl, ap, inl, inr, rules, arith}
use Rattle.pool_model.proofs.OnLiterals.{pool_on_literals}
use Rattle.ddt_entry.specs.declared.key.Key.{Key}
use Rattle.ddt_entry.specs.declared.entry.Home.{Home}
use Rattle.pool_model.specs.WorkedFacts.{RefusedFiles, OtherLines, EdgeFile, ReadFiles, Limits, Digests, Needs, Premise, HoldTogether, Contents, Counted, Sorted, one_key, entry}

pub refused_files : RefusedFiles
unfolding pool_on_literals
refused_files = search rules

pub other_lines : OtherLines
other_lines = record {
  reading = refl;
  freeing = refl;
  quota_is = refl;
  no_quota = refl;
  off = refl;
  on = refl;
  verify = refl;
  by_age = refl;
  by_share = refl;
}

pub edge_file : EdgeFile
unfolding pool_on_literals
edge_file = refl

pub read_files : ReadFiles
unfolding pool_on_literals
read_files = record { empty = refl; skipped = refl; asks = refl; imports = refl; no_write = refl; several = refl }

pub limits : Limits
unfolding pool_on_literals
limits = record {
  longest_file = refl;
  sixteen = refl;
  powers = refl;
  block = refl;
  longer = refl;
  writes = refl;
  one_more = refl;
  items = refl;
  one_item_more = refl;
  one_group_more = refl;
  last_end = refl;
  last_read = refl;
  one_read_more = refl;
  read_of_full = refl;
  free_behind = refl;
}

pub digests : Digests
unfolding pool_on_literals
digests = record { of_a = refl; of_b = refl; of_c = refl }

pub needs : Needs
needs = record { writes = refl; changes = refl; full = refl; one_more = refl; one_free = refl; without_pages = refl; many_writes = refl }

pub premise : Premise
unfolding pool_on_literals
premise = record {
  clash = λ h. (let second : 97 ≡ 98 = ap (λ (block : List ℕ). slice_index block 1) (h.0.writes.1.0 refl) in omega arith);
  verified = search rules;
  switched_off = search rules;
  one_block = search rules;
  spoilt_block = λ h. (let first : 97 ≡ 98 = ap (λ (block : List ℕ). slice_index block 0) (h.0.waiting.0 refl) in omega arith);
  spoilt_pointer = λ h. (let first : 97 ≡ 98 = ap (λ (block : List ℕ). slice_index block 0) (h.0.pointers.0 refl) in omega arith);
  waiting_block = search rules;
}

pub hold_together : HoldTogether
hold_together = record {
  shared = search rules;
  one_slot = λ h. (let e : true ≡ false = h.together.0.0.slots in cc);
  one_place = λ h. elim (h.together.0.0.two_blocks refl) as (λ x. ⊥) [ inl e ↦ omega arith | inr e ↦ omega arith ];
  two_places = λ h. (let e : 32 ≡ 33 = (h.together.0.0.one_home refl).place in omega arith);
  two_moments = λ h. (let e : 9 ≡ 10 = (h.together.0.0.one_home refl).since in omega arith);
  in_ring = λ h. (let e : 32 ≤ 31 = h.within.0.start in omega arith);
  past_end = λ h. (let e : 2049 ≤ 2048 = h.within.0.end in omega arith);
  later_born = λ h. (let e : 3 ≤ 2 = h.within.0.birth in omega arith);
  out_of_order = λ h. (let e : false ≡ true = h.rising.0.0 in cc);
  few_modes = λ h. (let e : 15 ≡ 16 = h.modes in omega arith);
}

pub contents : Contents
contents = record {
  longest = search rules;
  nothing = λ h. (let e : 1 ≤ 0 = h.0 in omega arith);
  too_long = λ h. (let e : 4097 ≤ 4096 = h.1 in omega arith);
  own_bytes = refl;
  other_bytes = λ h. (let e : 98 ≡ 97 = ap (λ (key : Key). slice_index key.digest 0) h in omega arith);
}

pub counted : Counted
counted = record {
  both = record { sorted = search rules; homes = λ key. grind arith; waiting = search rules; apart = search rules };
  one_lost = λ h. (let e : 1 ≡ 2 = ap (λ (home : Option Home). option_map_or (λ x. x.count) home 0) (h.homes one_key) in omega arith);
  elsewhere = λ h. (let e : 32 ≡ 33 = ap (λ (home : Option Home). option_map_or (λ x. x.place) home 0) (h.homes one_key) in omega arith);
  left_over = λ h. (let e : Some (entry 32 1).home ≡ None = h.homes one_key in cc);
  waiting = record { sorted = search rules; homes = λ key. grind arith; waiting = search rules; apart = search rules };
  place_taken = λ h. elim h.waiting.0.0 as (λ x. ⊥) [ inl e ↦ omega arith | inr e ↦ omega arith ];
  uncounted_stored = λ h. (let e : false ≡ true = h.sorted.zap_counted.0 in cc);
}

pub sorted : Sorted
sorted = record {
  three_lists = record {
    zap_rising = search rules;
    zap_counted = search rules;
    flush_rising = search rules;
    active_rising = search rules;
    logs_apart = search rules;
    past = search rules;
  };
  stored_falls = λ h. (let e : false ≡ true = h.zap_rising.0.0 in cc);
  stored_twice = λ h. (let e : false ≡ true = h.zap_rising.0.0 in cc);
  active_falls = λ h. (let e : false ≡ true = h.active_rising.0.0 in cc);
  flushing_falls = λ h. (let e : false ≡ true = h.flush_rising.0.0 in cc);
  in_both = λ h. (let e = h.logs_apart.0 in cc);
  uncounted = λ h. (let e : false ≡ true = h.zap_counted.0 in cc);
  flushed_already = λ h. (let e : false ≡ true = h.past.0 in cc);
}
