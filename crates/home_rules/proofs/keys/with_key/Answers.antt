use Rattle.std.proofs.Common.{◌≡◌, true, false, sym, slice_get, unwrap_or, position, length}
use Rattle.std.specs.List.{position_or_len}
use Rattle.home_rules.proofs.KeyInsertions.{from, stands_at, with_key-at, with_key-same}
use Rattle.home_rules.proofs.keys.with_key.Goals as goal
use Rattle.pool_model.proofs.Loops.{unwrap_or-position}

pub returns-then-has_at : goal.returns-then-has_at
returns-then-has_at c =
    let place = unwrap_or-position (from c.args.key) c.args.keys.items in
    let there : stands_at c.args.key (slice_get c.args.keys.items (position_or_len (from c.args.key) c.args.keys.items)) ≡ true = cc
    (c.args.keys.ok.0, c.if-has_at.ensures) in
    sym (with_key-same _ _ there)

pub returns : goal.returns
returns c =
    let place : c.unwrap_or-at.result ≡ unwrap_or (position (from c.args.key) c.args.keys.items) (length c.args.keys.items) = cc
    (c.args.keys.ok.0) in
    let absent : stands_at c.args.key (slice_get c.args.keys.items c.unwrap_or-at.result) ≡ false = cc (c.if-has_at.ensures) in
    with_key-at _ _ _ _ place absent c.in_ok-insert.ensures.items
