-- A reading that went well went well in its parts.
use Rattle.std.proofs.Common.{◌≡◌, ℕ, Bool, true, false, cond, Ok, Err, Result, refl, arith}
use Rattle.tokens.specs.declared.fault.Fault.{Fault}
use Rattle.tokens.specs.Lines.{then}

pub err_ok : {A : Type 0} (f : Fault) (a : A) → ◌≡◌ {A = Result A Fault} (Err f) (Ok a) → ⊥
err_ok f a e = let z : ◌≡◌ {A = ℕ} 0 1 = cc in omega arith

pub ok_same : {A : Type 0} (a b : A) → ◌≡◌ {A = Result A Fault} (Ok a) (Ok b) → a ≡ b
ok_same a b e = cc

pub then_inv : {A B : Type 0} (r : Result (A × ℕ) Fault) (next : A → ℕ → Result B Fault) (b : B) → then r next ≡ Ok b → (p : A × ℕ) × (r ≡ Ok p) × (next p.0 p.1 ≡ Ok b)
then_inv (Ok p) next b e = (p, refl, e)
then_inv (Err f) next b e = absurd (err_ok f b e)

pub cond_inv : {A : Type 0} (b : Bool) (r : Result A Fault) (f : Fault) (a : A) → cond b r (Err f) ≡ Ok a → (b ≡ true) × (r ≡ Ok a)
cond_inv true r f a e = (refl, e)
cond_inv false r f a e = absurd (err_ok f a e)
