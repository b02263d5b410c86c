use Rattle.std.proofs.Common.{◌≡◌, take, fold, if◌then◌else◌, []}
use Rattle.pool_model.specs.Pool.{is_tracked, with_key}
use Rattle.plain_pool.proofs.pool.PlainPool.keys_in.Given as goal

abbrev pub invariant-loop-pointer : goal.invariant-loop-pointer
invariant-loop-pointer l =
    l.keys.items ≡ fold (λ keys pointer. if is_tracked pointer.mark then with_key pointer.key keys else keys) []
    (take l.pointer-index l.self.pointers)
