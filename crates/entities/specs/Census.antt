-- The plain data that an allocator shows, and the population that it stands for.
use Rattle.std.specs.Prelude.{ℕ, ℤ, pos, nat_abs, int_lt, Bool, not, ◌&&◌, List, slice_index_or, refl}
use Rattle.std.specs.Coded.{Coded, code_by, coded×, coded_ℕ, coded_ℤ, coded_list}
use Rattle.std.specs.Ordering.{nat_cmp}
use Rattle.std.specs.FinSet as set
use Rattle.entities.specs.Population.{Population}

pub record Census : Type 0 where
  -- above zero while alive, below zero when dead
  pub generations : List ℤ
  -- the indices that may be born again, the next one last
  pub free : List ℕ
  pub raised : set.FinSet nat_cmp
  pub killed : set.FinSet nat_cmp
  -- births, marks and deaths of the indices below it need no memory
  pub room : ℕ

abbrev pub census_code : Coded Census
census_code =
    code_by (List ℤ × (List ℕ × (set.FinSet nat_cmp × (set.FinSet nat_cmp × ℕ)))) (coded× (coded_list coded_ℤ) (coded× (coded_list coded_ℕ) (coded× (set.code coded_ℕ) (coded× (set.code coded_ℕ) coded_ℕ))))
    (λ c. (c.generations, (c.free, (c.raised, (c.killed, c.room))))) (λ p. record { generations = p.0; free = p.1.0; raised = p.1.1.0; killed = p.1.1.1.0; room = p.1.1.1.1 }) (λ _. refl)

abbrev pub has : set.FinSet nat_cmp → ℕ → Bool
has s i = set.contains s i

abbrev pub births_of : List ℤ → ℕ → ℕ
births_of generations i = nat_abs (slice_index_or generations i (pos 0))

abbrev pub living_of : List ℤ → ℕ → Bool
living_of generations i = int_lt (pos 0) (slice_index_or generations i (pos 0))

abbrev pub population : Census → Population
population c = record {
  births = births_of c.generations;
  merged = λ i. living_of c.generations i && not (has c.raised i);
  pending = λ i. living_of c.generations i && has c.raised i;
  marked = λ i. living_of c.generations i && has c.killed i;
}
