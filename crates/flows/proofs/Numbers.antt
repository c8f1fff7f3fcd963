-- The numbers of units, noted for each wire.
use Rattle.std.proofs.Common.{◌≡◌, ℕ, zero, suc, ◌+◌, ◌-◌, ◌*◌, ◌<◌, ◌≤◌, Bool, true, false, cond, eqb, ◌⊎◌, List, length, get_or, sym, refl, ap, ◌∙◌, subst, ap₂, subst₂, inl, inr, ⊎_elim, arith}
use Rattle.std.specs.List.{CopiedTo, SameBelow, SameFrom}
use Rattle.std.proofs.lemmas.Bool.{cases_lt, cases_order, eq-eqb, ne_eqb, eqb-true}
use Rattle.circuits.specs.declared.making.Making.{Making}
use Rattle.circuits.specs.declared.making.Making.TheVariants.{Input, Constant, Copy, Inversion, Sum, Product}
use Rattle.routes.specs.Routes.{at, Passes, Ordered, Wires}
use Rattle.routes.specs.Sums.{sum_of, ranks}
use Rattle.routes.specs.Plans.{ones}
use Rattle.routes.specs.Flows.{Flow, IsFlow, value}
use Rattle.routes.specs.Stored.{slots, First, Second}
use Rattle.routes.specs.Traces.{first_to}
use Rattle.routes.proofs.Traces.{prefix_le}
use Rattle.rows.specs.Rows.{Room, cell, written, Between, Only}
use Rattle.rows.proofs.Cells.{rows_apart, cell_at, cell_here, cell_written, cell_other, cell_else, room_written, only_then, only_written}
use Rattle.rows.specs.Held.{making, circuit_of}
use Rattle.flows.specs.Kept.{flow_in}
use Rattle.flows.specs.Numbers.{Numbers, Numbered, Numbering, noted}
use Rattle.circuits.specs.Circuits.{Feeds}
use Rattle.rows.proofs.HeldCircuit.{circuit_at, feeds_held}
use Rattle.flows.proofs.Kept.{circuit_kept, flow_kept, only_outside}
use Rattle.flows.proofs.Writes.{is_first, is_second}
use Rattle.flows.proofs.Steps.{flow_small}
use Rattle.flows.proofs.Units.{along_read, first_to_more}

cond_plus : (t : Bool) (a b k : ℕ) → (t ≡ true → a ≡ b) → cond t (a + k) b ≡ b + cond t k 0
cond_plus true a b k h = omega (arith, h refl)
cond_plus false a b k h = omega arith

module _ (m : List ℕ) (n r v w k : ℕ) (room : Room n m) (lr : 15 ≤ r) (hr : r ≤ 16) (hv : v < n) (hw : w < n) where
  abbrev mid : List ℕ
  mid = written m n r w (cell m n 17 v)

  noted_rest : Only (Between 15 17) n m (noted m n r v w k)
  noted_rest =
      only_then (Between 15 17) n m mid (noted m n r v w k) (only_written (Between 15 17) n m r w (cell m n 17 v) hw (lr, omega arith)) (only_written (Between 15 17) n mid 17 v (cell m n 17 v + k) hv (omega arith, omega arith))

  noted_running : (u : ℕ) → cell (noted m n r v w k) n 17 u ≡ cell m n 17 u + cond (eqb u v) k 0
  noted_running u =
      cell_here mid n 17 v (cell m n 17 v + k) (room_written m n r w (cell m n 17 v) room) (omega arith) hv u
      ∙ ap (cond (eqb u v) (cell m n 17 v + k)) (cell_else m n r w (cell m n 17 v) 17 hw (λ e. omega arith) u)
      ∙ cond_plus (eqb u v) (cell m n 17 v) (cell m n 17 u) k (λ e. ap (cell m n 17) (sym (eqb-true u v e)))

  noted_here : cell (noted m n r v w k) n r w ≡ cell m n 17 v
  noted_here =
      cell_else mid n 17 v (cell m n 17 v + k) r hv (λ e. omega arith) w
      ∙ cell_written m n r w (cell m n 17 v) room (omega arith) hw

  noted_other : (u : ℕ) → (u ≡ w → ⊥) → cell (noted m n r v w k) n r u ≡ cell m n r u
  noted_other u ne =
      cell_else mid n 17 v (cell m n 17 v + k) r hv (λ e. omega arith) u
      ∙ cell_other m n r w (cell m n 17 v) room (omega arith) hw u ne

  noted_row : (q : ℕ) → (q ≡ r → ⊥) → (q ≡ 17 → ⊥) → (u : ℕ) → cell (noted m n r v w k) n q u ≡ cell m n q u
  noted_row q nr ns u = cell_else mid n 17 v (cell m n 17 v + k) q hv ns u ∙ cell_else m n r w (cell m n 17 v) q hw nr u

  pub noted_room : Room n (noted m n r v w k)
  noted_room = room_written mid n 17 v (cell m n 17 v + k) (room_written m n r w (cell m n 17 v) room)

-- no unit comes to a wire made so, or units come from f alone, or from f and s
abbrev pub FromNone : Making → Type 0
FromNone how = (a b v : ℕ) → (slots how a b v ≡ 0) × (First how v → ⊥) × (Second how v → ⊥)

abbrev pub FromOne : Making → ℕ → Type 0
FromOne how f = (a b v : ℕ) → (slots how a b v ≡ cond (eqb v f) a 0) × (First how v → v ≡ f) × (Second how v → ⊥)

abbrev pub FromTwo : Making → ℕ → ℕ → Type 0
FromTwo how f s = (a b v : ℕ) → (slots how a b v ≡ cond (eqb v f) a 0 + cond (eqb v s) b 0) × (First how v → v ≡ f) × (Second how v → v ≡ s) × First how f

pub from_none : (how : Making) → (how ≡ Input) ⊎ ((k : Bool) × (how ≡ Constant k)) ⊎ ((f : ℕ) × (s : ℕ) × (how ≡ Product f s)) → FromNone how
from_none how =
    ⊎_elim (λ e. subst FromNone (sym e) (λ a b v. (refl, λ x. x, λ x. x)))
    (⊎_elim (λ t. subst FromNone (sym t.1) (λ a b v. (refl, λ x. x, λ x. x)))
    (λ t. subst FromNone (sym t.2) (λ a b v. (refl, λ x. x, λ x. x))))

pub kind_none : (k f s : ℕ) → (k ≡ 0) ⊎ (3 < k) → FromNone (making k f s)
kind_none zero f s h = λ a b v. (refl, λ x. x, λ x. x)
kind_none (suc zero) f s h = absurd (⊎_elim (λ e. omega arith) (λ e. omega arith) h)
kind_none (suc (suc zero)) f s h = absurd (⊎_elim (λ e. omega arith) (λ e. omega arith) h)
kind_none (suc (suc (suc zero))) f s h = absurd (⊎_elim (λ e. omega arith) (λ e. omega arith) h)
kind_none (suc (suc (suc (suc zero)))) f s h = λ a b v. (refl, λ x. x, λ x. x)
kind_none (suc (suc (suc (suc (suc k))))) f s h = λ a b v. (refl, λ x. x, λ x. x)

pub from_one : (how : Making) (f : ℕ) → (how ≡ Copy f) ⊎ (how ≡ Inversion f) → FromOne how f
from_one how f =
    ⊎_elim (λ e. subst (λ how. FromOne how f) (sym e) (λ a b v. (refl, λ x. x, λ x. x)))
    (λ e. subst (λ how. FromOne how f) (sym e) (λ a b v. (refl, λ x. x, λ x. x)))

pub from_two : (how : Making) (f s : ℕ) → how ≡ Sum f s → FromTwo how f s
from_two how f s e = subst (λ how. FromTwo how f s) (sym e) (λ a b v. (refl, λ x. x, λ x. x, refl))

pub last_or_below : (u w : ℕ) → u < w + 1 → (u ≡ w) ⊎ (u < w)
last_or_below u w h = ⊎_elim inr (λ l. inl (omega arith)) (cases_lt u w)

-- one wire more, from what was read of it
module _ (n : ℕ) (m : List ℕ) (room : Room n m) (w : ℕ) (hw : w < n) (how : Making) (a b : ℕ)
    (is : how ≡ at (circuit_of m n) w) (ea : a ≡ cell m n 9 w) (eb : b ≡ cell m n 10 w)
    (ordered : Ordered (circuit_of m n)) (h : Numbers (circuit_of m n) (flow_in m n) n m w) where
  abbrev c : List Making
  c = circuit_of m n

  abbrev x : Flow
  x = flow_in m n

  made : at c w ≡ how
  made = sym is

  to_more : (v : ℕ) → first_to x v (w + 1) ≡ first_to x v w + slots how a b v
  to_more v = first_to_more x v w ∙ ap (λ u. first_to x v w + u) (sym (along_read m n w how a b is ea eb v))

  feeds : Feeds w how
  feeds = feeds_held m n room ordered w hw how is

  pub turn_none : FromNone how → Numbering n m m (w + 1)
  turn_none e =
      record {
        numbers = record {
          running = λ v l. omega (arith, h.running v l, to_more v, (e a b v).0);
          firsts = λ u v l o. ⊎_elim
              (λ q. absurd ((e a b v).1 (subst (λ t. First t v) (ap (at c) q ∙ made) o)))
              (λ q. h.firsts u v q o) (last_or_below u w l);
          seconds = λ u v l o ne. ⊎_elim
              (λ q. absurd ((e a b v).2 (subst (λ t. Second t v) (ap (at c) q ∙ made) o)))
              (λ q. h.seconds u v q o ne) (last_or_below u w l);
        };
        rest = λ r q. refl;
      }

  module _ (f : ℕ) (hf : f < n) where
    abbrev m₁ : List ℕ
    m₁ = noted m n 15 f w a

    run₁ : (u : ℕ) → cell m₁ n 17 u ≡ cell m n 17 u + cond (eqb u f) a 0
    run₁ = noted_running m n 15 f w a room (omega arith) (omega arith) hf hw

    first₁ : ((v : ℕ) → First how v → v ≡ f) → (u v : ℕ) → u < w + 1 → First (at c u) v → cell m₁ n 15 u ≡ first_to x v u
    first₁ z u v l o =
        ⊎_elim
        (λ q. let vf : v ≡ f = z v (subst (λ t. First t v) (ap (at c) q ∙ made) o) in
        ap (cell m₁ n 15) q ∙ noted_here m n 15 f w a room (omega arith) (omega arith) hf hw ∙ h.running f hf ∙ ap₂ (first_to x) (sym vf) (sym q))
        (λ (q : u < w). noted_other m n 15 f w a room (omega arith) (omega arith) hf hw u (λ z. omega arith) ∙ h.firsts u v q o)
        (last_or_below u w l)

    first_few : a ≤ slots how a b f → cell m n 17 f + a ≤ first_to x f (w + 1)
    first_few l = omega (arith, h.running f hf, to_more f, l)

    turn_first : FromOne how f → Numbering n m m₁ (w + 1)
    turn_first e =
        record {
          numbers = record {
            running = λ v l. omega (arith, run₁ v, h.running v l, to_more v, (e a b v).0);
            firsts = first₁ (λ v. (e a b v).1);
            seconds = λ u v l o ne. ⊎_elim
                (λ q. absurd ((e a b v).2 (subst (λ t. Second t v) (ap (at c) q ∙ made) o)))
                (λ q. noted_row m n 15 f w a room (omega arith) (omega arith) hf hw 16 (λ z. omega arith) (λ z. omega arith) u ∙ h.seconds u v q o ne)
                (last_or_below u w l);
          };
          rest = noted_rest m n 15 f w a room (omega arith) (omega arith) hf hw;
        }

    module _ (s : ℕ) (hs : s < n) where
      abbrev m₂ : List ℕ
      m₂ = noted m₁ n 16 s w b

      room₁ : Room n m₁
      room₁ = noted_room m n 15 f w a room (omega arith) (omega arith) hf hw

      second_few : FromTwo how f s → cell m₁ n 17 s + b ≤ first_to x s (w + 1)
      second_few e = omega (arith, run₁ s, h.running s hs, to_more s, (e a b s).0, ap (λ t. cond t b 0) (eq-eqb s s refl))

      turn_both : FromTwo how f s → Numbering n m m₂ (w + 1)
      turn_both e =
          record {
            numbers = record {
              running = λ v l. omega (arith, noted_running m₁ n 16 s w b room₁ (omega arith) (omega arith) hs hw v, run₁ v, h.running v l, to_more v, (e a b v).0);
              firsts = λ u v l o.
                  noted_row m₁ n 16 s w b room₁ (omega arith) (omega arith) hs hw 15 (λ z. omega arith) (λ z. omega arith) u ∙ first₁ (λ v. (e a b v).1) u v l o;
              seconds = λ u v l o ne. ⊎_elim
                  (λ q. let vs : v ≡ s = (e a b v).2 (subst (λ t. Second t v) (ap (at c) q ∙ made) o) in
                  let apart : eqb s f ≡ false = ne_eqb s f (λ z. ne (subst (λ t. First t v) (sym (ap (at c) q ∙ made)) (subst (First how) (sym (vs ∙ z)) (e a b v).3))) in
                  ap (cell m₂ n 16) q ∙ noted_here m₁ n 16 s w b room₁ (omega arith) (omega arith) hs hw
                  ∙ omega (arith, run₁ s, h.running s hs, ap (λ t. cond t a 0) apart) ∙ ap₂ (first_to x) (sym vs) (sym q))
                  (λ (q : u < w). noted_other m₁ n 16 s w b room₁ (omega arith) (omega arith) hs hw u (λ z. omega arith)
                  ∙ noted_row m n 15 f w a room (omega arith) (omega arith) hf hw 16 (λ z. omega arith) (λ z. omega arith) u ∙ h.seconds u v q o ne)
                  (last_or_below u w l);
            };
            rest = only_then (Between 15 17) n m m₁ m₂ (noted_rest m n 15 f w a room (omega arith) (omega arith) hf hw) (noted_rest m₁ n 16 s w b room₁ (omega arith) (omega arith) hs hw);
          }

  full : (f : ℕ) → cond (eqb f f) a 0 ≡ a
  full f = ap (λ t. cond t a 0) (eq-eqb f f refl)

  -- a copy or an inversion
  module _ (f : ℕ) (e : (how ≡ Copy f) ⊎ (how ≡ Inversion f)) where
    low : f < n
    low = omega (arith, ⊎_elim (λ e. subst (Feeds w) e feeds) (λ e. subst (Feeds w) e feeds) e)

    pub one_few : cell m n 17 f + a ≤ first_to x f (w + 1)
    one_few = first_few f low (omega (arith, (from_one how f e a b f).0, full f))

    pub turn_one : Numbering n m (noted m n 15 f w a) (w + 1)
    turn_one = turn_first f low (from_one how f e)

  -- a sum
  module _ (f s : ℕ) (e : how ≡ Sum f s) where
    lows : (f < w) × (s < w)
    lows = subst (Feeds w) e feeds

    pub two_few : cell m n 17 f + a ≤ first_to x f (w + 1)
    two_few = first_few f (omega (arith, lows.0)) (omega (arith, (from_two how f s e a b f).0, full f))

    pub two_more_few : cell (noted m n 15 f w a) n 17 s + b ≤ first_to x s (w + 1)
    two_more_few = second_few f (omega (arith, lows.0)) s (omega (arith, lows.1)) (from_two how f s e)

    pub turn_two : Numbering n m (noted (noted m n 15 f w a) n 16 s w b) (w + 1)
    turn_two = turn_both f (omega (arith, lows.0)) s (omega (arith, lows.1)) (from_two how f s e)

-- one wire more of many
pub numbering_then : (n : ℕ) (m₀ m m' : List ℕ) (w k : ℕ) → Numbering n m₀ m w → Numbering n m m' k → Numbering n m₀ m' k
numbering_then n m₀ m m' w k p q =
    record {
      numbers = subst₂ (λ c x. Numbers c x n m' k) (circuit_kept (Between 15 17) n m₀ m (λ r l f. omega arith) p.rest) (flow_kept (Between 15 17) n m₀ m (λ r l f. omega arith) p.rest) q.numbers;
      rest = only_then (Between 15 17) n m₀ m m' p.rest q.rest;
    }

pub numbering_more : (n : ℕ) (m₀ m m' : List ℕ) (w : ℕ) → Numbering n m₀ m w → Numbering n m m' (w + 1) → Numbering n m₀ m' (w + 1)
numbering_more n m₀ m m' w p q = numbering_then n m₀ m m' w (w + 1) p q

pub numbers_now : (n : ℕ) (m₀ m : List ℕ) (w : ℕ) → Numbering n m₀ m w → Numbers (circuit_of m n) (flow_in m n) n m w
numbers_now n m₀ m w p = subst₂ (λ c x. Numbers c x n m w) (sym (circuit_kept (Between 15 17) n m₀ m (λ r l f. omega arith) p.rest)) (sym (flow_kept (Between 15 17) n m₀ m (λ r l f. omega arith) p.rest)) p.numbers

-- before the first wire, when the row of the units that end is copied
module _ (n : ℕ) (m m' : List ℕ) (same : length m' ≡ length m) (a b : ℕ) (ea : a ≡ 11 * n) (eb : b ≡ 17 * n)
    (copied : CopiedTo m m' a b ((a + n) - a)) (below : SameBelow m m' b) (from : SameFrom m m' (b + ((a + n) - a))) where
  outside : (k : ℕ) → (k < b) ⊎ (b + n ≤ k) → get_or m' k 0 ≡ get_or m k 0
  outside k = ⊎_elim (λ l. below k 0 l) (λ l. from k 0 (omega arith))

  off : (r i : ℕ) → i < n → (Between 15 17 r → ⊥) → (r * n + i < b) ⊎ (b + n ≤ r * n + i)
  off r i low ne =
      ⊎_elim (λ q. absurd (ne (omega arith, omega arith)))
      (⊎_elim (λ q. inl (omega (arith, eb, rows_apart n r 17 q))) (λ q. inr (omega (arith, eb, rows_apart n 17 r q)))) (cases_order r 17)

  ended : (v : ℕ) → v < n → cell m' n 17 v ≡ cell m n 11 v
  ended v l = cell_at m' n 17 v l ∙ copied (17 * n + v) 0 (omega (arith, eb)) (omega (arith, eb)) ∙ ap (λ i. get_or m i 0) (omega (arith, ea, eb)) ∙ sym (cell_at m n 11 v l)

  pub begun_copied : Numbering n m m' 0
  unfolding flow_in
  begun_copied =
      record {
        numbers = record {
          running = λ v l. omega (arith, ended v l);
          firsts = λ u v l o. absurd (omega arith);
          seconds = λ u v l o ne. absurd (omega arith);
        };
        rest = only_outside (Between 15 17) n m m' b (b + n) same outside off;
      }

-- the number that was noted
pub noted_first : (n : ℕ) (m : List ℕ) → Numbered n m → (v w : ℕ) → w < n → Passes (circuit_of m n) w v → cell m n 1 w ≡ v → cell m n 15 w ≡ first_to (flow_in m n) v w
noted_first n m h v w l f e = h.firsts w v l (is_first m n v w f e)

pub noted_second : (n : ℕ) (m : List ℕ) → Numbered n m → (v w : ℕ) → w < n → Passes (circuit_of m n) w v → (cell m n 1 w ≡ v → ⊥) → cell m n 16 w ≡ first_to (flow_in m n) v w
noted_second n m h v w l f e =
    h.seconds w v l (is_second m n v w f e)
    (λ o. e (sym (only_first (cell m n 0 w) (cell m n 1 w) (cell m n 2 w) v (subst (λ t. First t v) (circuit_at m n w) o))))
  where
    only_first : (k f s v : ℕ) → First (making k f s) v → v ≡ f
    only_first zero f s v o = absurd o
    only_first (suc zero) f s v o = o
    only_first (suc (suc zero)) f s v o = o
    only_first (suc (suc (suc zero))) f s v o = o
    only_first (suc (suc (suc (suc zero)))) f s v o = absurd o
    only_first (suc (suc (suc (suc (suc k))))) f s v o = absurd o

-- no number passes what passes the wire
pub first_to_few : (c : List Making) → Ordered c → (barred : Wires) (x : Flow) → IsFlow c barred ones x → (v k : ℕ) → k ≤ length c → first_to x v k ≤ value c x
first_to_few c ordered barred x flow v k l =
    ⊎_elim
    (λ (q : k < length c). omega (arith, flow.leaves v, prefix_le (λ u. x.along v u) k (length c) q, (flow_small c ordered barred x flow).throughs v))
    (λ (q : length c ≤ k). let same : k ≡ length c = omega arith in
    omega (arith, flow.leaves v, ap (λ j. sum_of (λ u. x.along v u) (ranks j)) same, (flow_small c ordered barred x flow).throughs v))
    (cases_lt k (length c))
