-- What is ready, out of a truncation: each part is an equation, an order, a test, or what a test finds.
use Rattle.std.proofs.Common.{◌≡◌, ℕ, ◌≤◌, Bool, true, List, refl}
use mathlib.Core.Logic.{∥∥₁_elim}
use denote.Struct.Props.{props}
use Rattle.circuits.specs.Circuits.{Feeds}
use Rattle.circuits.specs.declared.making.Making.{Making}
use Rattle.circuits.specs.declared.making.Making.TheVariants.{Input, Constant, Copy, Inversion, Sum, Product}
use Rattle.routes.specs.Routes.{at, Ends}
use Rattle.routes.proofs.Tests.{product?, product_from, product_true, ends?, ends_from, ends_true}
use Rattle.rows.specs.Rows.{cell}
use Rattle.rows.specs.Held.{circuit_of}
use Rattle.rows.specs.Fed.{Loaded}
use Rattle.flows.specs.Kept.{Flows}
use Rattle.flows.specs.Numbers as numbers
use Rattle.flows.proofs.Writes.{along_passes}
use Rattle.plannings.specs.declared.kept.Phase.{Phase}
use Rattle.plannings.specs.declared.kept.Phase.TheVariants as phase
use Rattle.plannings.specs.Ready.{Staged, Ready}
use Rattle.plannings.specs.declared.kept.Kept.{Kept}

module _ {X : Type 0} (h : ∥ X ∥₁) where
  equal : (a b : ℕ) → (X → a ≡ b) → a ≡ b
  equal a b f = ∥∥₁_elim h (hlevel props) f

  least : (a b : ℕ) → (X → a ≤ b) → a ≤ b
  least a b f = ∥∥₁_elim h (hlevel props) f

  met : (b : Bool) → (X → b ≡ true) → b ≡ true
  met b f = ∥∥₁_elim h (hlevel props) f

  never : (X → ⊥) → ⊥
  never f = ∥∥₁_elim h (hlevel props) f

  feeds : (k : ℕ) (how : Making) → (X → Feeds k how) → Feeds k how
  feeds k Input f = tt
  feeds k (Constant b) f = tt
  feeds k (Copy a) f = ∥∥₁_elim h (hlevel props) f
  feeds k (Inversion a) f = ∥∥₁_elim h (hlevel props) f
  feeds k (Sum a b) f = (∥∥₁_elim h (hlevel props) (λ x. (f x).0), ∥∥₁_elim h (hlevel props) (λ x. (f x).1))
  feeds k (Product a b) f = (∥∥₁_elim h (hlevel props) (λ x. (f x).0), ∥∥₁_elim h (hlevel props) (λ x. (f x).1))

  ends : (c : List Making) (v : ℕ) → (X → Ends c v) → Ends c v
  ends c v f = ends_from c v (met (ends? c v) (λ x. ends_true c v (f x)))

  module _ (n : ℕ) (m : List ℕ) where
    loaded : (X → Loaded (circuit_of m n) n m) → Loaded (circuit_of m n) n m
    loaded f =
        record {
          circuit = refl;
          goals = λ v. (λ l. ends (circuit_of m n) v (λ x. ((f x).goals v).0 l), λ e. least 1 (cell m n 4 v) (λ x. ((f x).goals v).1 e));
          lists = record { starts = λ v l. ∥∥₁_elim h (hlevel props) (λ x. (f x).lists.starts v l); wires = λ v i l k. ∥∥₁_elim h (hlevel props) (λ x. (f x).lists.wires v i l k) };
        }

    flows : (X → Flows n m) → Flows n m
    flows f =
        record {
          from_products = λ w l. product_from (circuit_of m n) w (met (product? (circuit_of m n) w) (λ x. product_true (circuit_of m n) w ((f x).from_products w l)));
          passed_on = λ v w l. along_passes m n v w l;
          to_products = λ w l. ends (circuit_of m n) w (λ x. (f x).to_products w l);
          enters = λ w. ∥∥₁_elim h (hlevel props) (λ x. (f x).enters w);
          leaves = λ v. ∥∥₁_elim h (hlevel props) (λ x. (f x).leaves v);
          fits = λ w l. ∥∥₁_elim h (hlevel props) (λ x. (f x).fits w l);
        }

    traceable : (X → numbers.Ready n m) → numbers.Ready n m
    traceable f =
        record {
          numbers =
              record {
                running = λ v l. ∥∥₁_elim h (hlevel props) (λ x. (f x).numbers.running v l);
                firsts = λ w v l k. ∥∥₁_elim h (hlevel props) (λ x. (f x).numbers.firsts w v l k);
                seconds = λ w v l k ne. ∥∥₁_elim h (hlevel props) (λ x. (f x).numbers.seconds w v l k ne);
              };
          endings =
              record {
                sums = λ w l. ∥∥₁_elim h (hlevel props) (λ x. (f x).endings.sums w l);
                ends = λ i l.
                    record {
                      within = ∥∥₁_elim h (hlevel props) (λ x. ((f x).endings.ends i l).within);
                      some = ∥∥₁_elim h (hlevel props) (λ x. ((f x).endings.ends i l).some);
                      number = ∥∥₁_elim h (hlevel props) (λ x. ((f x).endings.ends i l).number);
                    };
              };
        }

    staged : (z : Phase) (k : ℕ) → (X → Staged z n m k) → Staged z n m k
    staged (phase.Open next) k f = λ l b. never (λ x. f x l b)
    staged phase.Closed k f = (∥∥₁_elim h (hlevel props) (λ x. (f x).0), traceable (λ x. (f x).1))
    staged (phase.Blocked r) k f = (∥∥₁_elim h (hlevel props) (λ x. (f x).0), ∥∥₁_elim h (hlevel props) (λ x. (f x).1))

pub ready_of : (n : ℕ) (m : List ℕ) (q : Kept) → ∥ Ready n m q ∥₁ → Ready n m q
ready_of n m q h =
    record {
      room = record { few = ∥∥₁_elim h (hlevel props) (λ r. r.room.few); rows = ∥∥₁_elim h (hlevel props) (λ r. r.room.rows) };
      ordered = λ w l. feeds h w (at (circuit_of m n) w) (λ r. r.ordered w l);
      loaded = loaded h n m (λ r. r.loaded);
      flows = flows h n m (λ r. r.flows);
      routes = ∥∥₁_elim h (hlevel props) (λ r. r.routes);
      bars = ∥∥₁_elim h (hlevel props) (λ r. r.bars);
      staged = staged h n m q.phase q.routes (λ r. r.staged);
    }
