use Rattle.std.proofs.Common.{inr}
use Rattle.composed.proofs.Loaded.{one_loaded, one_stops}
use Rattle.composed.proofs.saved_types.Tuple1SavedTypes.load.Goals as goal

pub returns-in-Ok-load_one-clause-loaded : goal.returns-in-Ok-load_one-clause-loaded
returns-in-Ok-load_one-clause-loaded g c =
    one_loaded _ _ _ _ _ g.F.Field.part g.F.Field.with_part _ _ c.args.fields.now c.in-Some.one.now c.load_one.new.one _ _ c.in-Ok.ensures.ok c.in-Some.ensures.value _ _ _ _ _ _ _ c.in-Ok-load_one.ensures.loaded

pub returns-in-Err-load_one-clause-refused : goal.returns-in-Err-load_one-clause-refused
returns-in-Err-load_one-clause-refused g c =
    inr (one_stops _ _ _ _ _ g.F.Field.part g.F.Field.with_part _ _ c.args.fields.now c.in-Some.one.now c.load_one.new.one _ _ c.in-Ok.ensures.ok c.in-Some.ensures.value _ _ _ _ _ _ _ _ c.in-Err-load_one.ensures.refused)
