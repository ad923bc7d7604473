use Rattle.std.proofs.Common.{refl}
use Rattle.std.specs.Prelude.{Result, Ok, Err, OnOk}
use Rattle.callers.proofs.saving.taken_up_by_numbers.Goals as goal

on_ok : {A E P Q : Type 0} (r : Result A E) → (P → Q) → OnOk r P → OnOk r Q
on_ok (Ok x) f h = f h
on_ok (Err e) f h = h

pub returns : goal.returns
returns g c =
    on_ok c.deserialize.result (λ loaded fits. c.next_number_is_new.ensures c.args.list.items _ _ c.args.allocator.now.next c.deserialize.new.allocator.next c.requires refl refl loaded fits) c.deserialize.ensures.loaded
