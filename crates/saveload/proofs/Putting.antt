-- A row of places is put where each of its places is.
use Rattle.std.proofs.Common.{◌≡◌, ℕ, Bool, true, false, nat_eq, cond, refl, sym, ap, ◌∙◌, inl, inr}
use Rattle.std.proofs.lemmas.Bool.{cases_eq, eq-eqb, ne_eqb}
use mathlib.Core.Path.{fun_ext}
use Rattle.saveload.specs.Loads.{row_put}

either-1 : {X1 : Type 0} (b : Bool) (x1 y1 : X1) → ◌≡◌ {A = record { 0 : X1 }} (record { 0 = cond b x1 y1 }) (cond b (record { 0 = x1 }) (record { 0 = y1 }))
either-1 true x1 y1 = refl
either-1 false x1 y1 = refl

pub put_one : {X1 : Type 0} (f1 h1 : ℕ → X1) (n : ℕ) (x1 : X1) → h1 ≡ row_put f1 n x1 → ◌≡◌ {A = ℕ → (record { 0 : X1 })} (λ i. record { 0 = h1 i }) (row_put (λ i. record { 0 = f1 i }) n (record { 0 = x1 }))
put_one f1 h1 n x1 e1 = rw e1 (fun_ext (λ j. either-1 (nat_eq n j) x1 (f1 j)))

either-2 : {X1 X2 : Type 0} (b : Bool) (x1 y1 : X1) (x2 y2 : X2) → ◌≡◌ {A = X1 × X2} ((cond b x1 y1, cond b x2 y2)) (cond b ((x1, x2)) ((y1, y2)))
either-2 true x1 y1 x2 y2 = refl
either-2 false x1 y1 x2 y2 = refl

pub put_two : {X1 X2 : Type 0} (f1 h1 : ℕ → X1) (f2 h2 : ℕ → X2) (n : ℕ) (x1 : X1) (x2 : X2) → h1 ≡ row_put f1 n x1 → h2 ≡ row_put f2 n x2 → ◌≡◌ {A = ℕ → (X1 × X2)} (λ i. (h1 i, h2 i)) (row_put (λ i. (f1 i, f2 i)) n ((x1, x2)))
put_two f1 h1 f2 h2 n x1 x2 e1 e2 = rw (e1, e2) (fun_ext (λ j. either-2 (nat_eq n j) x1 (f1 j) x2 (f2 j)))

either-3 : {X1 X2 X3 : Type 0} (b : Bool) (x1 y1 : X1) (x2 y2 : X2) (x3 y3 : X3) → ◌≡◌ {A = X1 × X2 × X3} ((cond b x1 y1, cond b x2 y2, cond b x3 y3)) (cond b ((x1, x2, x3)) ((y1, y2, y3)))
either-3 true x1 y1 x2 y2 x3 y3 = refl
either-3 false x1 y1 x2 y2 x3 y3 = refl

pub put_three : {X1 X2 X3 : Type 0} (f1 h1 : ℕ → X1) (f2 h2 : ℕ → X2) (f3 h3 : ℕ → X3) (n : ℕ) (x1 : X1) (x2 : X2) (x3 : X3) → h1 ≡ row_put f1 n x1 → h2 ≡ row_put f2 n x2 → h3 ≡ row_put f3 n x3 → ◌≡◌ {A = ℕ → (X1 × X2 × X3)} (λ i. (h1 i, h2 i, h3 i)) (row_put (λ i. (f1 i, f2 i, f3 i)) n ((x1, x2, x3)))
put_three f1 h1 f2 h2 f3 h3 n x1 x2 x3 e1 e2 e3 = rw (e1, e2, e3) (fun_ext (λ j. either-3 (nat_eq n j) x1 (f1 j) x2 (f2 j) x3 (f3 j)))

either-4 : {X1 X2 X3 X4 : Type 0} (b : Bool) (x1 y1 : X1) (x2 y2 : X2) (x3 y3 : X3) (x4 y4 : X4) → ◌≡◌ {A = X1 × X2 × X3 × X4} ((cond b x1 y1, cond b x2 y2, cond b x3 y3, cond b x4 y4)) (cond b ((x1, x2, x3, x4)) ((y1, y2, y3, y4)))
either-4 true x1 y1 x2 y2 x3 y3 x4 y4 = refl
either-4 false x1 y1 x2 y2 x3 y3 x4 y4 = refl

pub put_four : {X1 X2 X3 X4 : Type 0} (f1 h1 : ℕ → X1) (f2 h2 : ℕ → X2) (f3 h3 : ℕ → X3) (f4 h4 : ℕ → X4) (n : ℕ) (x1 : X1) (x2 : X2) (x3 : X3) (x4 : X4) → h1 ≡ row_put f1 n x1 → h2 ≡ row_put f2 n x2 → h3 ≡ row_put f3 n x3 → h4 ≡ row_put f4 n x4 → ◌≡◌ {A = ℕ → (X1 × X2 × X3 × X4)} (λ i. (h1 i, h2 i, h3 i, h4 i)) (row_put (λ i. (f1 i, f2 i, f3 i, f4 i)) n ((x1, x2, x3, x4)))
put_four f1 h1 f2 h2 f3 h3 f4 h4 n x1 x2 x3 x4 e1 e2 e3 e4 = rw (e1, e2, e3, e4) (fun_ext (λ j. either-4 (nat_eq n j) x1 (f1 j) x2 (f2 j) x3 (f3 j) x4 (f4 j)))

either-5 : {X1 X2 X3 X4 X5 : Type 0} (b : Bool) (x1 y1 : X1) (x2 y2 : X2) (x3 y3 : X3) (x4 y4 : X4) (x5 y5 : X5) → ◌≡◌ {A = X1 × X2 × X3 × X4 × X5} ((cond b x1 y1, cond b x2 y2, cond b x3 y3, cond b x4 y4, cond b x5 y5)) (cond b ((x1, x2, x3, x4, x5)) ((y1, y2, y3, y4, y5)))
either-5 true x1 y1 x2 y2 x3 y3 x4 y4 x5 y5 = refl
either-5 false x1 y1 x2 y2 x3 y3 x4 y4 x5 y5 = refl

pub put_five : {X1 X2 X3 X4 X5 : Type 0} (f1 h1 : ℕ → X1) (f2 h2 : ℕ → X2) (f3 h3 : ℕ → X3) (f4 h4 : ℕ → X4) (f5 h5 : ℕ → X5) (n : ℕ) (x1 : X1) (x2 : X2) (x3 : X3) (x4 : X4) (x5 : X5) → h1 ≡ row_put f1 n x1 → h2 ≡ row_put f2 n x2 → h3 ≡ row_put f3 n x3 → h4 ≡ row_put f4 n x4 → h5 ≡ row_put f5 n x5 → ◌≡◌ {A = ℕ → (X1 × X2 × X3 × X4 × X5)} (λ i. (h1 i, h2 i, h3 i, h4 i, h5 i)) (row_put (λ i. (f1 i, f2 i, f3 i, f4 i, f5 i)) n ((x1, x2, x3, x4, x5)))
put_five f1 h1 f2 h2 f3 h3 f4 h4 f5 h5 n x1 x2 x3 x4 x5 e1 e2 e3 e4 e5 = rw (e1, e2, e3, e4, e5) (fun_ext (λ j. either-5 (nat_eq n j) x1 (f1 j) x2 (f2 j) x3 (f3 j) x4 (f4 j) x5 (f5 j)))

either-6 : {X1 X2 X3 X4 X5 X6 : Type 0} (b : Bool) (x1 y1 : X1) (x2 y2 : X2) (x3 y3 : X3) (x4 y4 : X4) (x5 y5 : X5) (x6 y6 : X6) → ◌≡◌ {A = X1 × X2 × X3 × X4 × X5 × X6} ((cond b x1 y1, cond b x2 y2, cond b x3 y3, cond b x4 y4, cond b x5 y5, cond b x6 y6)) (cond b ((x1, x2, x3, x4, x5, x6)) ((y1, y2, y3, y4, y5, y6)))
either-6 true x1 y1 x2 y2 x3 y3 x4 y4 x5 y5 x6 y6 = refl
either-6 false x1 y1 x2 y2 x3 y3 x4 y4 x5 y5 x6 y6 = refl

pub put_six : {X1 X2 X3 X4 X5 X6 : Type 0} (f1 h1 : ℕ → X1) (f2 h2 : ℕ → X2) (f3 h3 : ℕ → X3) (f4 h4 : ℕ → X4) (f5 h5 : ℕ → X5) (f6 h6 : ℕ → X6) (n : ℕ) (x1 : X1) (x2 : X2) (x3 : X3) (x4 : X4) (x5 : X5) (x6 : X6) → h1 ≡ row_put f1 n x1 → h2 ≡ row_put f2 n x2 → h3 ≡ row_put f3 n x3 → h4 ≡ row_put f4 n x4 → h5 ≡ row_put f5 n x5 → h6 ≡ row_put f6 n x6 → ◌≡◌ {A = ℕ → (X1 × X2 × X3 × X4 × X5 × X6)} (λ i. (h1 i, h2 i, h3 i, h4 i, h5 i, h6 i)) (row_put (λ i. (f1 i, f2 i, f3 i, f4 i, f5 i, f6 i)) n ((x1, x2, x3, x4, x5, x6)))
put_six f1 h1 f2 h2 f3 h3 f4 h4 f5 h5 f6 h6 n x1 x2 x3 x4 x5 x6 e1 e2 e3 e4 e5 e6 = rw (e1, e2, e3, e4, e5, e6) (fun_ext (λ j. either-6 (nat_eq n j) x1 (f1 j) x2 (f2 j) x3 (f3 j) x4 (f4 j) x5 (f5 j) x6 (f6 j)))

-- a row of places is the same where each of its places is
pub same_one : {X1 : Type 0} (f1 h1 : ℕ → X1) → h1 ≡ f1 → ◌≡◌ {A = ℕ → (record { 0 : X1 })} (λ i. record { 0 = h1 i }) (λ i. record { 0 = f1 i })
same_one f1 h1 e1 = rw e1 refl

pub same_two : {X1 X2 : Type 0} (f1 h1 : ℕ → X1) (f2 h2 : ℕ → X2) → h1 ≡ f1 → h2 ≡ f2 → ◌≡◌ {A = ℕ → (X1 × X2)} (λ i. (h1 i, h2 i)) (λ i. (f1 i, f2 i))
same_two f1 h1 f2 h2 e1 e2 = rw (e1, e2) refl

pub same_three : {X1 X2 X3 : Type 0} (f1 h1 : ℕ → X1) (f2 h2 : ℕ → X2) (f3 h3 : ℕ → X3) → h1 ≡ f1 → h2 ≡ f2 → h3 ≡ f3 → ◌≡◌ {A = ℕ → (X1 × X2 × X3)} (λ i. (h1 i, h2 i, h3 i)) (λ i. (f1 i, f2 i, f3 i))
same_three f1 h1 f2 h2 f3 h3 e1 e2 e3 = rw (e1, e2, e3) refl

pub same_four : {X1 X2 X3 X4 : Type 0} (f1 h1 : ℕ → X1) (f2 h2 : ℕ → X2) (f3 h3 : ℕ → X3) (f4 h4 : ℕ → X4) → h1 ≡ f1 → h2 ≡ f2 → h3 ≡ f3 → h4 ≡ f4 → ◌≡◌ {A = ℕ → (X1 × X2 × X3 × X4)} (λ i. (h1 i, h2 i, h3 i, h4 i)) (λ i. (f1 i, f2 i, f3 i, f4 i))
same_four f1 h1 f2 h2 f3 h3 f4 h4 e1 e2 e3 e4 = rw (e1, e2, e3, e4) refl

pub same_five : {X1 X2 X3 X4 X5 : Type 0} (f1 h1 : ℕ → X1) (f2 h2 : ℕ → X2) (f3 h3 : ℕ → X3) (f4 h4 : ℕ → X4) (f5 h5 : ℕ → X5) → h1 ≡ f1 → h2 ≡ f2 → h3 ≡ f3 → h4 ≡ f4 → h5 ≡ f5 → ◌≡◌ {A = ℕ → (X1 × X2 × X3 × X4 × X5)} (λ i. (h1 i, h2 i, h3 i, h4 i, h5 i)) (λ i. (f1 i, f2 i, f3 i, f4 i, f5 i))
same_five f1 h1 f2 h2 f3 h3 f4 h4 f5 h5 e1 e2 e3 e4 e5 = rw (e1, e2, e3, e4, e5) refl

pub same_six : {X1 X2 X3 X4 X5 X6 : Type 0} (f1 h1 : ℕ → X1) (f2 h2 : ℕ → X2) (f3 h3 : ℕ → X3) (f4 h4 : ℕ → X4) (f5 h5 : ℕ → X5) (f6 h6 : ℕ → X6) → h1 ≡ f1 → h2 ≡ f2 → h3 ≡ f3 → h4 ≡ f4 → h5 ≡ f5 → h6 ≡ f6 → ◌≡◌ {A = ℕ → (X1 × X2 × X3 × X4 × X5 × X6)} (λ i. (h1 i, h2 i, h3 i, h4 i, h5 i, h6 i)) (λ i. (f1 i, f2 i, f3 i, f4 i, f5 i, f6 i))
same_six f1 h1 f2 h2 f3 h3 f4 h4 f5 h5 f6 h6 e1 e2 e3 e4 e5 e6 = rw (e1, e2, e3, e4, e5, e6) refl

-- what is put where it was
pub put_same : {V : Type 0} (f g : ℕ → V) (n : ℕ) → g ≡ f → g ≡ row_put f n (f n)
put_same {V} f g n e = e ∙ fun_ext (λ j. elim (cases_eq n j) [
  | inl same ↦ sym (ap (λ b. cond b (f n) (f j)) (eq-eqb n j same) ∙ ap f same)
  | inr d ↦ sym (ap (λ b. cond b (f n) (f j)) (ne_eqb n j d))
])
