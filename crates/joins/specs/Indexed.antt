-- A storage with an index of it.
use Rattle.std.specs.Prelude.{ℕ, refl}
use Rattle.std.specs.Coded.{Coded, code_by, coded×, coded_ℕ}
use Rattle.storages.specs.Slot.{Slot, slot_code}

-- a storage's value, and an index that has a component
pub record Indexed (T : Type 0) : Type 0 where
  pub slot : Slot T
  pub index : ℕ

abbrev pub indexed_code : {T : Type 0} → Coded T → Coded (Indexed T)
indexed_code {T} code = code_by (Slot T × ℕ) (coded× (slot_code code) coded_ℕ) (λ p. (p.slot, p.index)) (λ p. record { slot = p.0; index = p.1 }) (λ _. refl)
