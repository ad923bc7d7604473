-- A call on one, two or three parts of a part.
use Rattle.std.proofs.Common.{◌≡◌, Option, Some, None, ap, sym, ◌∙◌}
use Rattle.std.specs.Prelude.{IfSome}
use Rattle.std.specs.Borrow.{Bor, MutBor}
use Rattle.composed.specs.One.{OnOneBeside}
use Rattle.composed.specs.Two.{OnTwo, OnTwoBeside, OnTwoAnd, OnTwoWith, CallsBeside}
use Rattle.composed.specs.Three.{OnThree, OnThreeBeside, CallsThree, CallsThreeBeside}

-- a part that a call left in a way is in a whole that it left in that way
pub on_part : {R S W M N : Type 0} (h : S → W) (r : Option R) (one : Option M) (other : Option N) (with_two : M → N → S) (post : R → MutBor M → MutBor N → MutBor M → MutBor N → Type 0) (n : S)
    → IfSome r (λ a. OnTwo one other with_two (post a) n) → IfSome r (λ a. OnTwo one other (λ v w. h (with_two v w)) (post a) (h n))
on_part h None one other with_two post n o = tt
on_part h (Some a) one other with_two post n o = record { x = o.x; y = o.y; x' = o.x'; y' = o.y'; at_x = o.at_x; at_y = o.at_y; called = o.called; is = ap h o.is }

pub on_part_one : {R S W E M : Type 0} (h : S → W) (r : Option R) (beside : E) (one : Option M) (with_one : M → S) (post : R → Bor E → MutBor M → MutBor M → Type 0) (n : S)
    → IfSome r (λ a. OnOneBeside beside one with_one (post a) n) → IfSome r (λ a. OnOneBeside beside one (λ v. h (with_one v)) (post a) (h n))
on_part_one h None beside one with_one post n o = tt
on_part_one h (Some a) beside one with_one post n o =
    record { e = o.e; x = o.x; x' = o.x'; at_e = o.at_e; at_x = o.at_x; called = o.called; is = ap h o.is }

pub on_part_beside : {R S W E M N : Type 0} (h : S → W) (r : Option R) (beside : E) (one : Option M) (other : Option N) (with_two : M → N → S) (post : R → Bor E → MutBor M → MutBor N → MutBor M → MutBor N → Type 0) (n : S)
    → IfSome r (λ a. OnTwoBeside beside one other with_two (post a) n) → IfSome r (λ a. OnTwoBeside beside one other (λ v w. h (with_two v w)) (post a) (h n))
on_part_beside h None beside one other with_two post n o = tt
on_part_beside h (Some a) beside one other with_two post n o =
    record { e = o.e; x = o.x; y = o.y; x' = o.x'; y' = o.y'; at_e = o.at_e; at_x = o.at_x; at_y = o.at_y; called = o.called; is = ap h o.is }

pub on_part_and : {R S W E M N : Type 0} (h : S → W) (r : Option R) (beside e_n : E) (one : Option M) (other : Option N) (with_two : M → N → S) (post : R → MutBor E → MutBor M → MutBor N → MutBor E → MutBor M → MutBor N → Type 0) (n : S)
    → IfSome r (λ a. OnTwoAnd beside one other with_two (post a) e_n n) → IfSome r (λ a. OnTwoAnd beside one other (λ v w. h (with_two v w)) (post a) e_n (h n))
on_part_and h None beside e_n one other with_two post n o = tt
on_part_and h (Some a) beside e_n one other with_two post n o =
    record { e = o.e; x = o.x; y = o.y; e' = o.e'; x' = o.x'; y' = o.y'; at_e = o.at_e; at_x = o.at_x; at_y = o.at_y; called = o.called; is_e = o.is_e; is = ap h o.is }

pub on_part_with : {R S W D E M N : Type 0} (h : S → W) (r : Option R) (first d_n : D) (rest e_n : E) (one : Option M) (other : Option N) (with_two : M → N → S)
    (post : R → MutBor D → MutBor E → MutBor M → MutBor N → MutBor D → MutBor E → MutBor M → MutBor N → Type 0) (n : S)
    → IfSome r (λ a. OnTwoWith first rest one other with_two (post a) d_n e_n n) → IfSome r (λ a. OnTwoWith first rest one other (λ v w. h (with_two v w)) (post a) d_n e_n (h n))
on_part_with h None first d_n rest e_n one other with_two post n o = tt
on_part_with h (Some a) first d_n rest e_n one other with_two post n o =
    record { d = o.d; e = o.e; x = o.x; y = o.y; d' = o.d'; e' = o.e'; x' = o.x'; y' = o.y'; at_d = o.at_d; at_e = o.at_e; at_x = o.at_x; at_y = o.at_y; called = o.called; is_d = o.is_d; is_e = o.is_e; is = ap h o.is }

pub on_part_three : {R S W M N O : Type 0} (h : S → W) (r : Option R) (one : Option M) (other : Option N) (third : Option O) (with_three : M → N → O → S)
    (post : R → MutBor M → MutBor N → MutBor O → MutBor M → MutBor N → MutBor O → Type 0) (n : S)
    → IfSome r (λ a. OnThree one other third with_three (post a) n) → IfSome r (λ a. OnThree one other third (λ u v w. h (with_three u v w)) (post a) (h n))
on_part_three h None one other third with_three post n o = tt
on_part_three h (Some a) one other third with_three post n o =
    record { x = o.x; y = o.y; z = o.z; x' = o.x'; y' = o.y'; z' = o.z'; at_x = o.at_x; at_y = o.at_y; at_z = o.at_z; called = o.called; is = ap h o.is }

-- a call on two that does a call on these and on what stands beside is that call
pub beside_two : {R S W E M N : Type 0} (h : S → W) (r : Option R) (beside : E) (one : Option M) (other : Option N) (with_two : M → N → S) (met : R → MutBor M → MutBor N → MutBor M → MutBor N → Type 0)
    (post : R → Bor E → MutBor M → MutBor N → MutBor M → MutBor N → Type 0) (n : S)
    → ((a : R) (x : MutBor M) (y : MutBor N) (x' : MutBor M) (y' : MutBor N) → met a x y x' y' → CallsBeside beside x.now y.now x'.now y'.now (post a))
    → IfSome r (λ a. OnTwo one other with_two (met a) n) → IfSome r (λ a. OnTwoBeside beside one other (λ v w. h (with_two v w)) (post a) (h n))
beside_two h None beside one other with_two met post n does o = tt
beside_two h (Some a) beside one other with_two met post n does o =
    let c = does a o.x o.y o.x' o.y' o.called in
    record {
      e = c.b;
      x = c.x;
      y = c.y;
      x' = c.x';
      y' = c.y';
      at_e = c.at_b;
      at_x = o.at_x ∙ sym (ap (λ v. Some v) c.at_x);
      at_y = o.at_y ∙ sym (ap (λ v. Some v) c.at_y);
      called = c.called;
      is = ap h (o.is ∙ ap (λ v. with_two v o.y'.now) (sym c.is_x) ∙ ap (with_two c.x'.now) (sym c.is_y));
    }

-- a call on one part and on two of another is a call on three of the whole
pub first_alone : {R S W M N O : Type 0} (h : M → S → W) (r : Option R) (part : Option M) (m m_n : M) (one : Option N) (other : Option O) (with_two : N → O → S)
    (post : R → MutBor M → MutBor N → MutBor O → MutBor M → MutBor N → MutBor O → Type 0) (n : S)
    → part ≡ Some m → IfSome r (λ a. OnTwoAnd m one other with_two (post a) m_n n) → IfSome r (λ a. OnThree part one other (λ u v w. h u (with_two v w)) (post a) (h m_n n))
first_alone h None part m m_n one other with_two post n at o = tt
first_alone h (Some a) part m m_n one other with_two post n at o =
    record {
      x = o.e;
      y = o.x;
      z = o.y;
      x' = o.e';
      y' = o.x';
      z' = o.y';
      at_x = at ∙ sym (ap (λ v. Some v) o.at_e);
      at_y = o.at_x;
      at_z = o.at_y;
      called = o.called;
      is = ap (λ v. h v n) o.is_e ∙ ap (h o.e'.now) o.is;
    }

pub second_alone : {R S W M N O : Type 0} (h : N → S → W) (r : Option R) (part : Option N) (m m_n : N) (one : Option M) (other : Option O) (with_two : M → O → S)
    (met : R → MutBor N → MutBor M → MutBor O → MutBor N → MutBor M → MutBor O → Type 0) (post : R → MutBor M → MutBor N → MutBor O → MutBor M → MutBor N → MutBor O → Type 0) (n : S)
    → ((a : R) (y : MutBor N) (x : MutBor M) (z : MutBor O) (y' : MutBor N) (x' : MutBor M) (z' : MutBor O) → met a y x z y' x' z' → CallsThree x.now y.now z.now x'.now y'.now z'.now (post a))
    → part ≡ Some m → IfSome r (λ a. OnTwoAnd m one other with_two (met a) m_n n) → IfSome r (λ a. OnThree one part other (λ u v w. h v (with_two u w)) (post a) (h m_n n))
second_alone h None part m m_n one other with_two met post n does at o = tt
second_alone h (Some a) part m m_n one other with_two met post n does at o =
    let c = does a o.e o.x o.y o.e' o.x' o.y' o.called in
    record {
      x = c.x;
      y = c.y;
      z = c.z;
      x' = c.x';
      y' = c.y';
      z' = c.z';
      at_x = o.at_x ∙ sym (ap (λ v. Some v) c.at_x);
      at_y = at ∙ sym (ap (λ v. Some v) (c.at_y ∙ o.at_e));
      at_z = o.at_y ∙ sym (ap (λ v. Some v) c.at_z);
      called = c.called;
      is = ap (λ v. h v n) (o.is_e ∙ sym c.is_y) ∙ ap (h c.y'.now) (o.is ∙ ap (λ v. with_two v o.y'.now) (sym c.is_x) ∙ ap (with_two c.x'.now) (sym c.is_z));
    }

pub third_alone : {R S W M N O : Type 0} (h : O → S → W) (r : Option R) (part : Option O) (m m_n : O) (one : Option M) (other : Option N) (with_two : M → N → S)
    (met : R → MutBor O → MutBor M → MutBor N → MutBor O → MutBor M → MutBor N → Type 0) (post : R → MutBor M → MutBor N → MutBor O → MutBor M → MutBor N → MutBor O → Type 0) (n : S)
    → ((a : R) (z : MutBor O) (x : MutBor M) (y : MutBor N) (z' : MutBor O) (x' : MutBor M) (y' : MutBor N) → met a z x y z' x' y' → CallsThree x.now y.now z.now x'.now y'.now z'.now (post a))
    → part ≡ Some m → IfSome r (λ a. OnTwoAnd m one other with_two (met a) m_n n) → IfSome r (λ a. OnThree one other part (λ u v w. h w (with_two u v)) (post a) (h m_n n))
third_alone h None part m m_n one other with_two met post n does at o = tt
third_alone h (Some a) part m m_n one other with_two met post n does at o =
    let c = does a o.e o.x o.y o.e' o.x' o.y' o.called in
    record {
      x = c.x;
      y = c.y;
      z = c.z;
      x' = c.x';
      y' = c.y';
      z' = c.z';
      at_x = o.at_x ∙ sym (ap (λ v. Some v) c.at_x);
      at_y = o.at_y ∙ sym (ap (λ v. Some v) c.at_y);
      at_z = at ∙ sym (ap (λ v. Some v) (c.at_z ∙ o.at_e));
      called = c.called;
      is = ap (λ v. h v n) (o.is_e ∙ sym c.is_z) ∙ ap (h c.z'.now) (o.is ∙ ap (λ v. with_two v o.y'.now) (sym c.is_x) ∙ ap (with_two c.x'.now) (sym c.is_y));
    }

pub on_part_three_beside : {R S W E M N O : Type 0} (h : S → W) (r : Option R) (beside : E) (one : Option M) (other : Option N) (third : Option O) (with_three : M → N → O → S)
    (post : R → Bor E → MutBor M → MutBor N → MutBor O → MutBor M → MutBor N → MutBor O → Type 0) (n : S)
    → IfSome r (λ a. OnThreeBeside beside one other third with_three (post a) n) → IfSome r (λ a. OnThreeBeside beside one other third (λ u v w. h (with_three u v w)) (post a) (h n))
on_part_three_beside h None beside one other third with_three post n o = tt
on_part_three_beside h (Some a) beside one other third with_three post n o =
    record { e = o.e; x = o.x; y = o.y; z = o.z; x' = o.x'; y' = o.y'; z' = o.z'; at_e = o.at_e; at_x = o.at_x; at_y = o.at_y; at_z = o.at_z; called = o.called; is = ap h o.is }

pub beside_three : {R S W E M N O : Type 0} (h : S → W) (r : Option R) (beside : E) (one : Option M) (other : Option N) (third : Option O) (with_three : M → N → O → S)
    (met : R → MutBor M → MutBor N → MutBor O → MutBor M → MutBor N → MutBor O → Type 0) (post : R → Bor E → MutBor M → MutBor N → MutBor O → MutBor M → MutBor N → MutBor O → Type 0) (n : S)
    → ((a : R) (x : MutBor M) (y : MutBor N) (z : MutBor O) (x' : MutBor M) (y' : MutBor N) (z' : MutBor O) → met a x y z x' y' z' → CallsThreeBeside beside x.now y.now z.now x'.now y'.now z'.now (post a))
    → IfSome r (λ a. OnThree one other third with_three (met a) n) → IfSome r (λ a. OnThreeBeside beside one other third (λ u v w. h (with_three u v w)) (post a) (h n))
beside_three h None beside one other third with_three met post n does o = tt
beside_three h (Some a) beside one other third with_three met post n does o =
    let c = does a o.x o.y o.z o.x' o.y' o.z' o.called in
    record {
      e = c.b;
      x = c.x;
      y = c.y;
      z = c.z;
      x' = c.x';
      y' = c.y';
      z' = c.z';
      at_e = c.at_b;
      at_x = o.at_x ∙ sym (ap (λ v. Some v) c.at_x);
      at_y = o.at_y ∙ sym (ap (λ v. Some v) c.at_y);
      at_z = o.at_z ∙ sym (ap (λ v. Some v) c.at_z);
      called = c.called;
      is = ap h (o.is ∙ ap (λ v. with_three v o.y'.now o.z'.now) (sym c.is_x) ∙ ap (λ v. with_three c.x'.now v o.z'.now) (sym c.is_y) ∙ ap (with_three c.x'.now c.y'.now) (sym c.is_z));
    }
