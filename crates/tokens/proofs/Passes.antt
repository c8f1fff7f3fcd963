-- Laws of readings one after another.
use Rattle.std.proofs.Common.{◌≡◌, ℕ, suc, ◌+◌, ◌-◌, ◌<◌, List, ◌∷◌, Ok, Err, Result, sym, refl, ap, ◌∙◌, arith}
use Rattle.tokens.specs.declared.fault.Fault.{Fault}
use Rattle.tokens.specs.declared.token.Numeral.{Numeral}
use Rattle.tokens.specs.Lines.{then, number_at, numbers_at, pass_at}

abbrev alone : Result (List Numeral × ℕ) Fault → Result (Unit {0} × ℕ) Fault
alone r = then r (λ _ last. Ok (tt, last))

abbrev joined : Numeral → Result (List Numeral × ℕ) Fault → Result (List Numeral × ℕ) Fault
joined n r = then r (λ ns last. Ok (n ∷ ns, last))

push : (n : Numeral) (r : Result (List Numeral × ℕ) Fault) → alone (joined n r) ≡ alone r
push n (Ok p) = refl
push n (Err f) = refl

one_more : (text : List ℕ) (m : ℕ) (r : Result (Numeral × ℕ) Fault) → alone (then r (λ n on. joined n (numbers_at text m on))) ≡ then r (λ _ on. pass_at text m on)
one_more text m (Ok p) = push p.0 (numbers_at text m p.1)
one_more text m (Err f) = refl

pub pass_suc : (text : List ℕ) (m at : ℕ) → pass_at text (suc m) at ≡ then (number_at text at) (λ _ on. pass_at text m on)
pass_suc text m at = one_more text m (number_at text at)

module _ (text : List ℕ) (k i at : ℕ) (total : Result (Unit {0} × ℕ) Fault) (inv : pass_at text (k - i) at ≡ total) (lt : i < k) where
  step : then (number_at text at) (λ _ on. pass_at text (k - (i + 1)) on) ≡ total
  step =
      let e : k - i ≡ suc (k - (i + 1)) = omega arith in
      sym (pass_suc text (k - (i + 1)) at) ∙ ap (λ m. pass_at text m at) (sym e) ∙ inv

  pub pass_goes : (n : Numeral) (on : ℕ) → Ok (n, on) ≡ number_at text at → pass_at text (k - (i + 1)) on ≡ total
  pass_goes n on e = ap (λ r. then r (λ _ on. pass_at text (k - (i + 1)) on)) e ∙ step
