-- The first row of a word.
use Rattle.std.proofs.Common.{◌≡◌, ℕ, List, [], ◌∷◌, map, refl, cond, true, false, Some}
use Rattle.std.specs.List.{find}
use Rattle.std.specs.Option.{option_map}
use Rattle.std.specs.Str.{bytes_eq}
use Rattle.tokens.specs.declared.gate.Row.{Row}
use Rattle.tokens.specs.Gates.{entry, look_up}

pub looked_up : (w : List ℕ) (rows : List Row) → option_map (λ (r : Row). r.rule) (find (λ (r : Row). bytes_eq r.word.now w) rows) ≡ look_up (map entry rows) w
looked_up w [] = refl
looked_up w (r ∷ rows) = elim (bytes_eq r.word.now w) as (λ b. option_map (λ (q : Row). q.rule) (cond b (Some r) (find (λ (q : Row). bytes_eq q.word.now w) rows)) ≡ cond b (Some r.rule) (look_up (map entry rows) w)) [ true ↦ refl | false ↦ looked_up w rows ]
