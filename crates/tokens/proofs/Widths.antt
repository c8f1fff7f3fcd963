-- Laws of a line of widths.
use Rattle.std.proofs.Common.{◌≡◌, ℕ, suc, ◌+◌, ◌-◌, ◌<◌, ◌≤◌, Bool, true, false, cond, ◌&&◌, leb, List, Ok, Err, Result, sym, ap, ◌∙◌, arith}
use Rattle.std.proofs.lemmas.Bool.{cond-true, cond-false}
use Rattle.std.proofs.lemmas.Bool.Decides.{nat_tests}
use Rattle.circuits.specs.declared.answer.Refusal.TheVariants as refusal
use Rattle.tokens.specs.declared.fault.Fault.{Fault}
use Rattle.tokens.specs.declared.token.Numeral.{Numeral}
use Rattle.tokens.specs.Faults.{fault_at}
use Rattle.tokens.specs.Lines.{then, number_at}
use Rattle.tokens.specs.Headers.{widths_at}

module _ (text : List ℕ) (wires k i sum at : ℕ) (total : Result (ℕ × ℕ) Fault) (inv : widths_at text wires (k - i) sum at ≡ total) where
  abbrev turn : Numeral → ℕ → Result (ℕ × ℕ) Fault
  turn w on = cond (leb 1 w.value && leb (sum + w.value) wires) (widths_at text wires (k - (i + 1)) (sum + w.value) on) (Err (fault_at text refusal.BadWidth w.at))

  step : i < k → then (number_at text at) turn ≡ total
  step h = let e : k - i ≡ suc (k - (i + 1)) = omega arith in ap (λ m. widths_at text wires m sum at) (sym e) ∙ inv

  module _ (h : i < k) (room : sum ≤ wires) (w : Numeral) (on : ℕ) (e : Ok (w, on) ≡ number_at text at) where
    abbrev pub Within : Bool → Type 0
    Within b = (leb 1 w.value && leb w.value (wires - sum)) ≡ b

    pub width_fits : Within true → (sum + w.value ≤ wires) × (widths_at text wires (k - (i + 1)) (sum + w.value) on ≡ total)
    width_fits t =
        let low : 1 ≤ w.value = grind (arith, nat_tests) in
        let high : sum + w.value ≤ wires = grind (arith, nat_tests) in
        let b : (leb 1 w.value && leb (sum + w.value) wires) ≡ true = grind (arith, nat_tests) in
        (high, sym (cond-true _ _ _ b) ∙ ap (λ r. then r turn) e ∙ step h)

    pub width_bad : Within false → Err (fault_at text refusal.BadWidth w.at) ≡ total
    width_bad t =
        let b : (leb 1 w.value && leb (sum + w.value) wires) ≡ false = grind (arith, nat_tests) in
        sym (cond-false _ _ _ b) ∙ ap (λ r. then r turn) e ∙ step h
