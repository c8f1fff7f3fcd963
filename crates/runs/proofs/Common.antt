-- What several proofs use.
use Prim.Native.Nat.{ℕ}
use native.Mathlib.Omega.{arith}
use mathlib.Core.Path.{◌≡◌, refl, sym, ◌∙◌, ap, fun_ext}
use mathlib.Core.List.{List}
use mathlib.Core.Bool.{Bool, true, false, cond, not, ◌&&◌, ◌||◌}
use mathlib.Core.Logic.{◌⊎◌, inl, inr, ⊎_elim}
use lib.ListN.{length, take, drop}
use lib.Dec.{eqb}
use Rattle.std.specs.declared.option.Option.{Option}
use Rattle.std.specs.declared.option.Option.TheVariants.{Some, None}
use Rattle.std.proofs.lemmas.List.{take-append-le, take_all}
use Rattle.std.proofs.lemmas.Option.{none-some}
use Rattle.std.proofs.lemmas.Bool.{cases_Bool, eqb-true, not-true}
use Rattle.circuits.specs.Answers.{first_fault}
use Rattle.circuits.specs.Levels.{produced_at}
use Rattle.circuits.specs.declared.making.Making.{Making}
use Rattle.routes.specs.Routes.{Wires}
use Rattle.runs.specs.Events.{set_or_lifted}
use Rattle.runs.specs.Law.{faults, Wrote}
use Rattle.runs.specs.declared.calls.Call.{Call}
use Rattle.runs.specs.declared.calls.State.{State}
use Rattle.runs.specs.declared.calls.Call.TheVariants as call

-- what is written is read again
pub read_again : (r before after : List ℕ) → Wrote r before after → take (length r) after ≡ r
read_again r before after w =
    ap (take (length r)) w.1 ∙ take-append-le (length r) r (drop (length r) before) (omega arith) ∙ take_all (length r) r (omega arith)

-- the tests that were passed
pub passed : (b : Bool) (n : ℕ) (o : Option ℕ) → cond b (Some n) o ≡ None → (b ≡ false) × (o ≡ None)
passed true n o e = absurd (none-some n (sym e))
passed false n o e = (refl, e)

found : (p q : Bool) (a b n : ℕ) → cond p (Some a) (cond q (Some b) None) ≡ Some n → (a ≡ n) ⊎ ((q ≡ true) × (b ≡ n))
found true q a b n e = inl (cc)
found false true a b n e = inr (refl, cc)
found false false a b n e = absurd (none-some n e)

-- a bar that stands, or does not, stays so
set_again : (w : ℕ) (bars : Wires) → bars w ≡ true → set_or_lifted (call.Bar w) bars ≡ bars
set_again w bars h =
    fun_ext (λ v. ⊎_elim (λ e. ap (λ b. b || bars v) e ∙ sym (ap bars (eqb-true v w e) ∙ h)) (λ e. ap (λ b. b || bars v) e) (cases_Bool (eqb v w)))

lifted_again : (w : ℕ) (bars : Wires) → bars w ≡ false → set_or_lifted (call.Unbar w) bars ≡ bars
lifted_again w bars h =
    fun_ext (λ v. ⊎_elim (λ e. ap (λ b. not b && bars v) e ∙ sym (ap bars (eqb-true v w e) ∙ h)) (λ e. ap (λ b. not b && bars v) e) (cases_Bool (eqb v w)))

pub both_ways : (b : Bool) (x : Wires) → cond b x x ≡ x
both_ways true x = refl
both_ways false x = refl

-- the bars after a refusal by n
pub bars_stay : (c : List Making) (bars : Wires) (s : State) (k : ℕ) (a : Call) (n : ℕ) → first_fault (faults c bars s k a) ≡ Some n
    → cond (eqb n 12) bars (set_or_lifted a bars) ≡ bars
bars_stay c bars s k (call.Bar w) n e =
    ⊎_elim
    (λ q. sym (ap (λ n. cond (eqb n 12) bars (set_or_lifted (call.Bar w) bars)) q))
    (λ q. sym (ap (λ n. cond (eqb n 12) bars (set_or_lifted (call.Bar w) bars)) q.1) ∙ set_again w bars q.0)
    (found (not (produced_at c w)) (bars w) 12 15 n e)
bars_stay c bars s k (call.Unbar w) n e =
    ⊎_elim
    (λ q. sym (ap (λ n. cond (eqb n 12) bars (set_or_lifted (call.Unbar w) bars)) q))
    (λ q. sym (ap (λ n. cond (eqb n 12) bars (set_or_lifted (call.Unbar w) bars)) q.1) ∙ lifted_again w bars (not-true (bars w) q.0))
    (found (not (produced_at c w)) (not (bars w)) 12 16 n e)
bars_stay c bars s k call.Step n e = both_ways (eqb n 12) bars
bars_stay c bars s k (call.Plan m) n e = both_ways (eqb n 12) bars
bars_stay c bars s k (call.Route i m) n e = both_ways (eqb n 12) bars
