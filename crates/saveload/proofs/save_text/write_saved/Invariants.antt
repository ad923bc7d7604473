use Rattle.std.proofs.Common.{take, string_bytes}
use Rattle.storages.specs.ReadView.{found}
use Rattle.saveload.proofs.Writing.{IsWriting}
use Rattle.saveload.proofs.save_text.write_saved.Given as goal

abbrev pub invariant-loop-e : goal.invariant-loop-e
invariant-loop-e g l =
    IsWriting g.M.JsonData.json g.M.JsonData.from g.P.Data.JsonPlaces.places g.P.Data.JsonPlaces.from g.P.SerializeComponents.conversion (λ x. found l.markers x) (λ x. g.P.SerializeComponents.values l.places x)
    (take l.e-index l.list) (string_bytes l.fn.text) (string_bytes l.text) l.separator
