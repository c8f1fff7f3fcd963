-- The small jobs, and the example of three products.
use Rattle.std.proofs.Common.{◌≡◌, ℕ, zero, suc, true, ◌⊎◌, List, [], ◌∷◌, length, sym, refl, inl, inr, ⊎_elim, arith}
use Rattle.std.proofs.lemmas.Bool.{true≢false}
use Rattle.std.specs.List.{range_with_len}
use Rattle.circuits.specs.Circuits.{Lawful}
use Rattle.circuits.specs.MatchingLaws.{matching_lawful}
use Rattle.circuits.specs.Matchings.{matching}
use Rattle.circuits.specs.TableLaws.{table_lawful}
use Rattle.circuits.specs.Tables.{table_fits}
use Rattle.circuits.specs.declared.making.Making.{Making}
use Rattle.circuits.specs.declared.making.Making.TheVariants.{Input, Inversion, Sum, Product}
use Rattle.routes.specs.Routes.{Operand, Passes, Route}
use Rattle.routes.specs.Plans.{wires_of}
use Rattle.routes.specs.Residuals.{entry, exit}
use Rattle.routes.specs.Jobs.{entries_from, product_of_products, sum_between, two_sums_of_one, inversion_between, three_products, Becomes, SmallJobs, ClosingProductDoesNotCount, plan_is, blocked_by, overruns, named_by_rank}
use Rattle.routes.proofs.Levels.{clean_is_every_route_hit}
use Rattle.routes.proofs.Certificates.{certified_earliest}

-- a table that fits is that of a lawful circuit
lawful : (inputs outputs : ℕ) (ms : List Making) → table_fits (entries_from 0 ms) (range_with_len 0 (length ms)) inputs outputs ≡ true → Lawful (named_by_rank inputs outputs ms)
lawful inputs outputs ms h = table_lawful (entries_from 0 ms) (range_with_len 0 (length ms)) inputs outputs h

job_1 : Becomes product_of_products (wires_of []) (plan_is (4 ∷ 5 ∷ []))
job_1 = certified_earliest product_of_products.makings [] (4 ∷ 5 ∷ []) ((4 ∷ []) ∷ (5 ∷ []) ∷ []) (exit 6 ∷ entry 6 ∷ entry 5 ∷ entry 4 ∷ []) refl

job_2 : Becomes sum_between (wires_of []) (plan_is (6 ∷ []))
job_2 = certified_earliest sum_between.makings [] (6 ∷ []) ((4 ∷ 6 ∷ []) ∷ [])
    (exit 8 ∷ exit 7 ∷ exit 4 ∷ entry 6 ∷ exit 5 ∷ entry 8 ∷ entry 7 ∷ entry 5 ∷ entry 4 ∷ []) refl

job_3 : Becomes two_sums_of_one (wires_of []) (plan_is (2 ∷ []))
job_3 = certified_earliest two_sums_of_one.makings [] (2 ∷ []) ((2 ∷ 3 ∷ []) ∷ []) (exit 5 ∷ entry 5 ∷ entry 2 ∷ []) refl

job_4 : Becomes inversion_between (wires_of []) (plan_is (2 ∷ []))
job_4 = certified_earliest inversion_between.makings [] (2 ∷ []) ((2 ∷ 3 ∷ []) ∷ []) (exit 4 ∷ entry 4 ∷ entry 2 ∷ []) refl

job_5 : Becomes inversion_between (wires_of (2 ∷ [])) (plan_is (3 ∷ []))
job_5 = certified_earliest inversion_between.makings (2 ∷ []) (3 ∷ []) ((2 ∷ 3 ∷ []) ∷ []) (entry 3 ∷ exit 2 ∷ exit 4 ∷ entry 4 ∷ entry 2 ∷ []) refl

job_6 : Becomes inversion_between (wires_of (2 ∷ 3 ∷ [])) (blocked_by (2 ∷ 3 ∷ []))
job_6 = ((tt, (refl, tt), (4, tt, inl refl)), (refl, (refl, tt)))

job_7 : Becomes three_products (wires_of []) (plan_is (2 ∷ 3 ∷ []))
job_7 = certified_earliest three_products.makings [] (2 ∷ 3 ∷ []) ((2 ∷ []) ∷ (3 ∷ []) ∷ []) (exit 4 ∷ entry 4 ∷ entry 3 ∷ entry 2 ∷ []) refl

job_8 : Becomes (matching 4) (wires_of []) (plan_is (16 ∷ 17 ∷ []))
job_8 = certified_earliest (matching 4).makings [] (16 ∷ 17 ∷ []) ((16 ∷ []) ∷ (17 ∷ []) ∷ []) (exit 18 ∷ entry 18 ∷ entry 17 ∷ entry 16 ∷ []) refl

job_9 : Becomes three_products (wires_of []) (overruns (3 ∷ []) 3 3)
job_9 = refl

inverted : Lawful inversion_between
inverted = lawful 2 1 (Input ∷ Input ∷ Product 0 1 ∷ Inversion 2 ∷ Product 3 0 ∷ []) refl

three : Lawful three_products
three = lawful 2 1 (Input ∷ Input ∷ Product 0 1 ∷ Product 2 0 ∷ Product 3 0 ∷ []) refl

pub small_jobs : SmallJobs
small_jobs = (
  (lawful 4 1 (Input ∷ Input ∷ Input ∷ Input ∷ Product 0 1 ∷ Product 2 3 ∷ Product 4 5 ∷ []) refl, job_1),
  (
    (lawful 4 2 (Input ∷ Input ∷ Input ∷ Input ∷ Product 0 1 ∷ Product 2 3 ∷ Sum 4 5 ∷ Product 6 0 ∷ Product 6 1 ∷ []) refl, job_2),
    (
      (lawful 2 1 (Input ∷ Input ∷ Product 0 1 ∷ Sum 2 0 ∷ Sum 2 1 ∷ Product 3 4 ∷ []) refl, job_3),
      (
        (inverted, job_4),
        (
          (inverted, job_5),
          (
            (inverted, job_6),
            (
              (three, job_7),
              ((matching_lawful 4 (omega arith) (omega arith), job_8), ((three, job_9), tt)),
            ),
          ),
        ),
      ),
    ),
  ),
)

-- no wire of three products passes anything on
none_pass : (w v : ℕ) → Passes three_products.makings w v → ⊥
none_pass zero v f = f
none_pass (suc zero) v f = f
none_pass (suc (suc zero)) v f = f
none_pass (suc (suc (suc zero))) v f = f
none_pass (suc (suc (suc (suc zero)))) v f = f
none_pass (suc (suc (suc (suc (suc w))))) v f = f

-- the last product is no operand
last_unused : (u : ℕ) → Operand three_products.makings u 4 → ⊥
last_unused zero o = o
last_unused (suc zero) o = o
last_unused (suc (suc zero)) o = ⊎_elim (λ e. omega arith) (λ e. omega arith) o
last_unused (suc (suc (suc zero))) o = ⊎_elim (λ e. omega arith) (λ e. omega arith) o
last_unused (suc (suc (suc (suc zero)))) o = ⊎_elim (λ e. omega arith) (λ e. omega arith) o
last_unused (suc (suc (suc (suc (suc u))))) o = o

two_routes : (r : List ℕ) → Route three_products.makings r → (r ≡ 2 ∷ []) ⊎ (r ≡ 3 ∷ [])
two_routes [] f = absurd f
two_routes (w ∷ v ∷ vs) f = absurd (none_pass v w f.1.0)
two_routes (zero ∷ []) f = absurd f.0
two_routes (suc zero ∷ []) f = absurd f.0
two_routes (suc (suc zero) ∷ []) f = inl refl
two_routes (suc (suc (suc zero)) ∷ []) f = inr refl
two_routes (suc (suc (suc (suc zero))) ∷ []) f = absurd (last_unused f.2.0 f.2.2)
two_routes (suc (suc (suc (suc (suc w)))) ∷ []) f = absurd f.0

pub closing_product_does_not_count : ClosingProductDoesNotCount
closing_product_does_not_count = (
  two_routes,
  (tt, inl refl),
  λ t laws clean. ⊎_elim (λ e. true≢false (sym e)) (λ e. e)
      ((clean_is_every_route_hit t laws three_products.makings three.fed (3 ∷ [])).0 clean (2 ∷ []) (tt, tt, (3, tt, inl refl))),
)
