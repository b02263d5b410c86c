-- A plain program's pointer as the definitions see it.
use Rattle.pool_model.specs.Pool.{Mark, plain, tracked, loose, Pointer}
use Rattle.plain_pool.specs.declared.pointer.Mark.{Mark as PlainMark}
use Rattle.plain_pool.specs.declared.pointer.Mark.TheVariants.{Plain, Tracked, Loose}
use Rattle.plain_pool.specs.declared.pointer.PlainPointer.TheInside.{Inside}

abbrev pub mark_of : PlainMark → Mark
mark_of Plain = plain
mark_of (Tracked since) = tracked since
mark_of Loose = loose

abbrev pub pointer_of : Inside → Pointer
pointer_of p =
    record { lane = p.lane; slot = p.slot; key = p.key; content = p.content.items; place = p.place; birth = p.birth; mark = mark_of p.mark }
