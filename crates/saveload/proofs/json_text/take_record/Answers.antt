use Rattle.saveload.proofs.Kept.{took, record_takes}
use Rattle.saveload.proofs.json_text.take_record.Goals as goal

pub returns-in-Some-after_byte : goal.returns-in-Some-after_byte
returns-in-Some-after_byte g c =
    record_takes g.M.JsonData.json g.M.JsonData.from g.D.JsonPlaces.places g.D.JsonPlaces.from (record { marker = c.in-Some-3.marker; components = c.in-Some-2.components })
    c.args.text.now c.in-Some.first.now c.in-Some-2.behind.now c.in-Some-after.second.now c.in-Some-3.end.now c.in-Some-after_byte.rest.now
    c.in-Some.ensures (took _ c.in_ok-components.field-0 (c.in-Some-2.components, c.in-Some-2.behind) c.in_ok-components.ensures c.in-Some-2.is)
    c.in-Some-after.ensures (took _ c.in_ok-marker.field-0 (c.in-Some-3.marker, c.in-Some-3.end) c.in_ok-marker.ensures c.in-Some-3.is) c.in-Some-after_byte.ensures
