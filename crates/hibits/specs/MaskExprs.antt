-- A tree of masks, by what each mask has, takes and has at most.
use Rattle.std.specs.Prelude.{◌≡◌, ℕ, ◌+◌, ◌/◌, ◌-◌, ◌^◌, ◌<◌, ◌≤◌, Bool, true, ◌&&◌, ◌||◌, min}
use Rattle.hibits.specs.declared.limits.TheConstants.{LAYERS}
use Rattle.hibits.specs.declared.mask_expr.MaskExpr.{MaskExpr}
use Rattle.hibits.specs.declared.mask_expr.MaskExpr.TheVariants.{Mask, And', Or', Xor', Not', All}
use Rattle.hibits.specs.Counts.{count_below}
use Rattle.hibits.specs.Views.{in_one, outside, everywhere, and_covers, and_few, or_covers, or_views_few, one_covers, one_few, outside_covers, all_covers, all_few}

-- whether a bit of a layer is set
abbrev pub expr_has : {M : Type 0} → (M → ℕ → ℕ → Bool) → MaskExpr M → ℕ → ℕ → Bool
expr_has leaf (Mask m) l i = leaf m l i
expr_has leaf (And' p a q b) l i = expr_has leaf a l i && expr_has leaf b l i
expr_has leaf (Or' p a q b) l i = expr_has leaf a l i || expr_has leaf b l i
expr_has leaf (Xor' p a q b) l i = in_one (expr_has leaf a) (expr_has leaf b) l i
expr_has leaf (Not' p a) l i = outside (expr_has leaf a) l i
expr_has leaf All l i = everywhere l i

-- how many words of plain sets one word takes
abbrev pub expr_cost : {M : Type 0} → (M → ℕ) → MaskExpr M → ℕ
expr_cost leaf (Mask m) = leaf m
expr_cost leaf (And' p a q b) = expr_cost leaf a + expr_cost leaf b
expr_cost leaf (Or' p a q b) = expr_cost leaf a + expr_cost leaf b
expr_cost leaf (Xor' p a q b) = expr_cost leaf a + expr_cost leaf b
expr_cost leaf (Not' p a) = expr_cost leaf a
expr_cost leaf All = 0

-- no layer has more bits set
abbrev pub expr_most : {M : Type 0} → (M → ℕ) → MaskExpr M → ℕ
expr_most leaf (Mask m) = leaf m
expr_most leaf (And' p a q b) = min (expr_most leaf a) (expr_most leaf b)
expr_most leaf (Or' p a q b) = expr_most leaf a + expr_most leaf b
expr_most leaf (Xor' p a q b) = expr_most leaf a + expr_most leaf b
expr_most leaf (Not' p a) = 64 ^ LAYERS
expr_most leaf All = 64 ^ LAYERS

module _ {M : Type 0} (leaf : M → ℕ → ℕ → Bool) where
  pub expr_covers : ((m : M) (l i : ℕ) → leaf m l i ≡ true → leaf m (l + 1) (i / 64) ≡ true) → (e : MaskExpr M) (l i : ℕ) → expr_has leaf e l i ≡ true → expr_has leaf e (l + 1) (i / 64) ≡ true
  expr_covers law (Mask m) l i is = law m l i is
  expr_covers law (And' p a q b) l i is = and_covers _ _ _ _ (expr_covers law a l i) (expr_covers law b l i) is
  expr_covers law (Or' p a q b) l i is = or_covers _ _ _ _ (expr_covers law a l i) (expr_covers law b l i) is
  expr_covers law (Xor' p a q b) l i is = one_covers (expr_has leaf a) (expr_has leaf b) l i (expr_covers law a l i) (expr_covers law b l i) is
  expr_covers law (Not' p a) l i is = outside_covers (expr_has leaf a) l i is
  expr_covers law All l i is = all_covers l i is

  pub expr_few : (most : M → ℕ) → ((m : M) (l n : ℕ) → l < LAYERS → n ≤ 64 ^ (LAYERS - l) → count_below (leaf m l) n ≤ most m) → (e : MaskExpr M) (l n : ℕ) → l < LAYERS → n ≤ 64 ^ (LAYERS - l) → count_below (expr_has leaf e l) n ≤ expr_most most e
  expr_few most law (Mask m) l n lt le = law m l n lt le
  expr_few most law (And' p a q b) l n lt le = and_few _ _ _ _ n (expr_few most law a l n lt le) (expr_few most law b l n lt le)
  expr_few most law (Or' p a q b) l n lt le = or_views_few _ _ _ _ n (expr_few most law a l n lt le) (expr_few most law b l n lt le)
  expr_few most law (Xor' p a q b) l n lt le = one_few (expr_has leaf a) (expr_has leaf b) (expr_most most a) (expr_most most b) l n (expr_few most law a l n lt le) (expr_few most law b l n lt le)
  expr_few most law (Not' p a) l n lt le = all_few (outside (expr_has leaf a) l) l n le
  expr_few most law All l n lt le = all_few (everywhere l) l n le
