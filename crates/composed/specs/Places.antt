-- Where a component type stands among many: proofs of the laws.
use Rattle.std.proofs.Common.{◌≡◌, inl, inr, ℕ, Bool, false, Option, Some, None, refl, ap, ◌∙◌}
use Rattle.std.specs.Prelude.{◌⊎◌}
use mathlib.Core.Path.{fun_ext}
use Rattle.std.specs.Option.{option_map}
use Rattle.specs.specs.Slots.Column.{Column}
use Rattle.specs.specs.Slots.Table.{Table}
use Rattle.composed.specs.declared.either.Either.{Either}
use Rattle.composed.specs.declared.either.Either.TheVariants.{First, Rest}
use Rattle.specs.specs.Typed.Shows.{column_as}
use Rattle.composed.specs.Both.{table_of_both, of_either}

itself : {V : Type 0} (o : Option V) → o ≡ option_map (λ x. x) o
itself None = refl
itself (Some x) = refl

pub sees_only : {V : Type 0} (o : Option (Column V)) → o ≡ option_map (column_as (λ x. x)) o
sees_only {V} None = refl
sees_only {V} (Some c) = ap (λ (m : ℕ → Option V). Some (record { values = m; channel = c.channel; inner = c.inner })) (fun_ext (λ i. itself (c.values i)))

twice : {T V W : Type 0} (f : T → V) (g : V → W) (o : Option T) → option_map g (option_map f o) ≡ option_map (λ t. g (f t)) o
twice f g None = refl
twice f g (Some x) = refl

twice_each : {T V W : Type 0} (f : T → V) (g : V → W) (o : Option (Column T)) → option_map (column_as g) (option_map (column_as f) o) ≡ option_map (column_as (λ t. g (f t))) o
twice_each {T} {V} {W} f g None = refl
twice_each {T} {V} {W} f g (Some c) = ap (λ (m : ℕ → Option W). Some (record { values = m; channel = c.channel; inner = c.inner })) (fun_ext (λ i. twice f g (c.values i)))

abbrev first_of : (V W : Type 0) → V → Either V W
first_of V W x = First x

abbrev rest_of : (V W : Type 0) → W → Either V W
rest_of V W x = Rest x

pub sees_first : {T V W : Type 0} (f : T → V) (o : Option (Column T)) (shown : Option (Column V)) → shown ≡ option_map (column_as f) o
    → option_map (column_as (first_of V W)) shown ≡ option_map (column_as (λ t. first_of V W (f t))) o
sees_first {T} {V} {W} f o shown e = ap (option_map (column_as (first_of V W))) e ∙ twice_each f (first_of V W) o

pub sees_rest : {T V W : Type 0} (f : T → W) (o : Option (Column T)) (shown : Option (Column W)) → shown ≡ option_map (column_as f) o
    → option_map (column_as (rest_of V W)) shown ≡ option_map (column_as (λ t. rest_of V W (f t))) o
sees_rest {T} {V} {W} f o shown e = ap (option_map (column_as (rest_of V W))) e ∙ twice_each f (rest_of V W) o

pub only_first : {K L V W : Type 0} (t t' : Table K V) (u : Table L W) (slot : K) → ((k : K) → (k ≡ slot) ⊎ (t' k ≡ t k)) → (k : Either K L)
    → (k ≡ First slot) ⊎ (table_of_both t' u k ≡ table_of_both t u k)
only_first t t' u slot only (First k) = elim (only k) [
  | inl e ↦ inl (ap First e)
  | inr e ↦ inr (ap (option_map (column_as First)) e)
]
only_first t t' u slot only (Rest l) = inr refl

pub only_rest : {K L V W : Type 0} (t : Table K V) (u u' : Table L W) (slot : L) → ((l : L) → (l ≡ slot) ⊎ (u' l ≡ u l)) → (l : Either K L)
    → (l ≡ Rest slot) ⊎ (table_of_both t u' l ≡ table_of_both t u l)
only_rest t u u' slot only (First k) = inr refl
only_rest t u u' slot only (Rest l) = elim (only l) [
  | inl e ↦ inl (ap Rest e)
  | inr e ↦ inr (ap (option_map (column_as Rest)) e)
]

-- where a slot of either without markers has no id, none of both has
pub idless_of_both : {K L : Type 0} (m : K → Bool) (n : L → Bool) (i : K → Option ℕ) (j : L → Option ℕ) → ((k : K) → m k ≡ false → i k ≡ Some 0) → ((l : L) → n l ≡ false → j l ≡ Some 0)
    → (k : Either K L) → of_either m n k ≡ false → of_either i j k ≡ Some 0
idless_of_both m n i j first rest (First k) h = first k h
idless_of_both m n i j first rest (Rest l) h = rest l h

abbrev first_or : {V W : Type 0} → V → Either V W → V
first_or other (First v) = v
first_or other (Rest w) = other

abbrev rest_or : {V W : Type 0} → W → Either V W → W
rest_or other (First v) = other
rest_or other (Rest w) = w

-- two in the first are one where they are one in the whole, and so are two in the rest
pub of_first : {V W : Type 0} {v v' : V} → ◌≡◌ {A = Either V W} (First v) (First v') → v ≡ v'
of_first {v} same = ap (first_or v) same

pub of_rest : {V W : Type 0} {w w' : W} → ◌≡◌ {A = Either V W} (Rest w) (Rest w') → w ≡ w'
of_rest {w} same = ap (rest_or w) same
