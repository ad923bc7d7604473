-- Data that is saved as other data.
use Rattle.std.specs.Prelude.{List, Option, option_map, option_and_then}
use Rattle.serde_json.specs.Data.{Data, Items}

-- what is made of a front, and what stands behind it
abbrev pub beside_rest : {X : Type 0} → Option X → Items → Option (X × Items)
beside_rest o ds = option_map (λ x. (x, ds)) o

abbrev pub fields_json : {X Y : Type 0} → (X → Y) → (Y → Data) → X → Data
fields_json fields json x = json (fields x)

abbrev pub fields_from : {X Y : Type 0} → (Y → Option X) → (Data → Option Y) → Data → Option X
fields_from of from d = option_and_then of (from d)

abbrev pub fields_parts : {X Y : Type 0} → (X → Y) → (Y → List Data) → X → List Data
fields_parts fields parts x = parts (fields x)

abbrev pub fields_split : {X Y : Type 0} → (Y → Option X) → (Items → Option (Y × Items)) → Items → Option (X × Items)
fields_split of split ds = option_and_then (λ p. beside_rest (of p.0) p.1) (split ds)
