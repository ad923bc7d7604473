-- The text of a refused insertion.
use Rattle.std.specs.Prelude.{ℕ, List, codes}
use Rattle.entities.specs.Texts.{wrong_text}
use Rattle.storages.specs.declared.write_storage.InsertError.{InsertError}
use Rattle.storages.specs.declared.write_storage.InsertError.TheVariants.{WrongGeneration as Stale, OutOfMemory}

abbrev pub insert_text : {T : Type 0} → InsertError T → List ℕ
insert_text (Stale w x) = wrong_text w
insert_text (OutOfMemory x) = codes "out of memory"
