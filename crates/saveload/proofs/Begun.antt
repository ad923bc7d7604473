-- Lists that still begin with what they were.
use Rattle.std.proofs.Common.{◌≡◌, ◌++◌, length, take, drop, List, subst, sym, ◌∙◌, ap}
use Rattle.std.proofs.Math.Seq.{take-append_seam}
use Rattle.std.proofs.lemmas.List.{take-append-drop, append_assoc}
use Rattle.saveload.specs.Json.{Begins}

-- what still begins with a list that was longer begins with the shorter one
pub begins_more : {X : Type 0} {a b : List X} (c d : List X) → b ≡ a ++ c → Begins b d → Begins a d
begins_more {X} {a} {b} c d e h =
    let rest : List X = drop (length b) d in
    let whole : d ≡ a ++ (c ++ rest) = sym (take-append-drop (length b) d) ∙ ap (λ z. z ++ rest) (h ∙ e) ∙ append_assoc a c rest in
    subst (λ z. take (length a) z ≡ a) (sym whole) (take-append_seam a (c ++ rest))
