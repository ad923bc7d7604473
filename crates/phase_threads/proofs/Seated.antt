-- Passes at their turns and apart from their answers.
use Rattle.std.proofs.Common.{◌≡◌, ℕ, ◌-◌, ◌<◌, Option, Some, List, [], ◌∷◌, ◌++◌, length, take, drop, map, refl, sym, ap, ◌∙◌, subst, arith}
use Rattle.std.specs.Prelude.{reverse, IsSome, IsSomeAnd, None}
use Rattle.std.specs.List.{All, AllZip}
use Rattle.std.proofs.lemmas.List.{get_or-reverse, reverse-reverse, length-reverse, length-map, take_at, drop_all}
use Rattle.std.proofs.lemmas.List.Elements.{All-nil, All-cons, All-head, All-tail}
use Rattle.entities.specs.declared.phase.pass.Pass.{Pass}
use Rattle.phase_threads.specs.declared.seats.Seat.{Seat}
use Rattle.phase_threads.specs.Seating.{passes_of, answers_of}

all_reverse : {X : Type 0} (P : X → Type 0) (xs : List X) → All P xs → All P (reverse xs)
all_reverse P xs h = λ k d lt. let lt' : k < length xs = omega (arith, lt, length-reverse xs) in subst P (sym (get_or-reverse xs k d lt')) (h (length xs - 1 - k) d (omega (arith, lt')))

all_back : {X : Type 0} (P : X → Type 0) (xs : List X) → All P (reverse xs) → All P xs
all_back P xs h = subst (All P) (reverse-reverse xs) (all_reverse P (reverse xs) h)

all_map : {X Y : Type 0} (f : X → Y) (P : Y → Type 0) (xs : List X) → All (λ x. P (f x)) xs → All P (map f xs)
all_map f P [] h = All-nil P
all_map f P (x ∷ xs) h = All-cons P (f x) (map f xs) (All-head (λ y. P (f y)) x xs h) (all_map f P xs (All-tail (λ y. P (f y)) x xs h))

all_unmap : {X Y : Type 0} (f : X → Y) (P : Y → Type 0) (xs : List X) → All P (map f xs) → All (λ x. P (f x)) xs
all_unmap f P [] h = All-nil (λ y. P (f y))
all_unmap f P (x ∷ xs) h = All-cons (λ y. P (f y)) x xs (All-head P (f x) (map f xs) h) (all_unmap f P xs (All-tail P (f x) (map f xs) h))

-- what holds of the passes holds of those that are seated
pub seated : {A : Type 0} (P : Pass → Type 0) (seats : List (Seat A)) (passes : List Pass) → passes_of seats ≡ passes → All P passes → All (λ s. P s.pass) seats
seated P seats passes same h = all_back (λ s. P s.pass) seats (all_unmap (λ s. s.pass) P (reverse seats) (subst (All P) (sym same) h))

-- and back
pub unseated : {A : Type 0} (P : Pass → Type 0) (seats : List (Seat A)) (passes : List Pass) → passes ≡ passes_of seats → All (λ s. P s.pass) seats → All P passes
unseated P seats passes same h = subst (All P) (sym same) (all_map (λ s. s.pass) P (reverse seats) (all_reverse (λ s. P s.pass) seats h))

some_same : {A : Type 0} (P : A → Type 0) (o : Option A) (a : A) → o ≡ Some a → IsSomeAnd o P → P a
some_same {A = A} P o a e h = subst (λ (p : Option A). IsSomeAnd p P) e h

pub some_of : {A : Type 0} (P : A → Type 0) (o : Option A) → IsSomeAnd o P → IsSome o
some_of P None h = absurd h
some_of P (Some x) h = refl

told_each : {A : Type 0} (R : Pass → A → Type 0) (seats : List (Seat A)) (answers : List A) → map Some answers ≡ map (λ s. s.answer) seats → All (λ s. IsSomeAnd s.answer (R s.pass)) seats → AllZip R (map (λ s. s.pass) seats) answers
told_each R [] [] e h = tt
told_each R [] (a ∷ answers) e h = absurd (cc)
told_each R (s ∷ seats) [] e h = absurd (cc)
told_each R (s ∷ seats) (a ∷ answers) e h =
    let heads : s.answer ≡ Some a = cc in
    let tails : map Some answers ≡ map (λ s. s.answer) seats = cc in
    (some_same (R s.pass) s.answer a heads (All-head (λ s. IsSomeAnd s.answer (R s.pass)) s seats h), told_each R seats answers tails (All-tail (λ s. IsSomeAnd s.answer (R s.pass)) s seats h))

-- what each answer tells of its pass it tells of it once they are parted
pub told : {A : Type 0} (R : Pass → A → Type 0) (seats : List (Seat A)) (passes : List Pass) (answers : List A) → passes ≡ passes_of seats → map Some answers ≡ answers_of seats → All (λ s. IsSomeAnd s.answer (R s.pass)) seats → AllZip R passes answers
told R seats passes answers same e h = subst (λ (ps : List Pass). AllZip R ps answers) (sym same) (told_each R (reverse seats) answers e (all_reverse (λ s. IsSomeAnd s.answer (R s.pass)) seats h))

-- as many answers and passes as seats
pub count_of_passes : {A : Type 0} (seats : List (Seat A)) (passes : List Pass) → passes ≡ passes_of seats → length passes ≡ length seats
count_of_passes seats passes same = ap length same ∙ length-map (reverse seats) (λ s. s.pass) ∙ length-reverse seats

pub count_of_answers : {A : Type 0} (seats : List (Seat A)) (answers : List A) → map Some answers ≡ answers_of seats → length answers ≡ length seats
count_of_answers seats answers same = sym (length-map answers Some) ∙ ap length same ∙ length-map (reverse seats) (λ s. s.answer) ∙ length-reverse seats

-- what was lent and comes back whole
pub lent_back : {X : Type 0} (now was : List X) (n : ℕ) → length now ≡ length was → n ≡ length was → take n (now ++ drop (length now) was) ≡ now
lent_back now was n same len = ap (λ xs. take n (now ++ xs)) (drop_all (length now) was (omega (arith, same))) ∙ take_at now [] n (omega (arith, same, len))
