use Rattle.std.proofs.Common.{◌≡◌, ℕ, Bool, true, false, if◌then◌else◌, Some, None, Option, ap, ◌∙◌, arith}
use Rattle.std.specs.Option.{option_map_or}
use Rattle.flows.specs.Residual.{back_to}
use Rattle.graphs.proofs.front.Front.from_entry.Goals as goal

-- back to an operand where units come from it
back_where : (n p : ℕ) (source : Option ℕ) (comes : Bool) (operand : ℕ) → source ≡ (if comes then Some operand else None)
    → option_map_or (λ a. back_to n p true a) source p ≡ back_to n p comes operand
back_where n p source true operand e = ap (λ s. option_map_or (λ a. back_to n p true a) s p) e
back_where n p source false operand e = ap (λ s. option_map_or (λ a. back_to n p true a) s p) e

pub returns-in-1 : goal.returns-in-1
returns-in-1 c = rw c.in-1.is (c.back.ensures ∙ back_where _ _ _ _ _ c.first_source.ensures)

pub returns-in_default : goal.returns-in_default
returns-in_default c =
    let third : c.args.i ≡ 2 = omega (arith, c.requires.within) in
    rw third (c.back-in_default.ensures ∙ back_where _ _ _ _ _ c.second_source.ensures)
