-- What the law of runs says of single calls and of two calls.
use Rattle.std.proofs.Common.{◌≡◌, ℕ, zero, suc, ◌<◌, ◌≤◌, Bool, true, false, cond, not, ◌&&◌, ◌||◌, eqb, ◌⊎◌, List, [], ◌∷◌, ◌++◌, map, length, get_or, drop, replicate, Some, None, Ok, Err, Option, Result, sym, refl, ap, ◌∙◌, subst, ap₂, inl, inr, ⊎_elim, arith}
use Rattle.std.specs.List.{AllByRecursion}
use Rattle.std.proofs.ByRecursion.{All-get_or}
use Rattle.std.proofs.lemmas.Bool.{true≢false, cases_Bool, eqb-true, or_cases, and_parts}
use Rattle.std.proofs.lemmas.Option.{none-some}
use Rattle.circuits.specs.Answers.{number_of, first_fault}
use Rattle.circuits.specs.Levels.{has, produced_at}
use Rattle.circuits.specs.declared.answer.Refusal.{Refusal}
use Rattle.circuits.specs.declared.making.Making.{Making}
use Rattle.routes.specs.Routes.{Ordered, Wires, Route}
use Rattle.routes.specs.Standing.{Apart}
use Rattle.routes.specs.Plans.{ones, Smallest, Blocked}
use Rattle.routes.proofs.Plans.{earliest_is_one, smallest_is_fewest, blocked_has_no_plan}
use Rattle.runs.specs.Events.{Event, History, Given, room_of, refused_by_12, set_or_lifted, barred, Epoch, new_epoch, index, after_answer, epoch}
use Rattle.runs.specs.Law.{is_open, is_blocked, faults, Steps, Obeyed, Answered, Answers, IsAt, RoutesStand, LawfulRun}
use Rattle.run_laws.specs.Consequences.{of_rank, is_bar, BarredByTheLast, TestedInOrder, Since, Gave, RoutesStayApart, RefusalsAlterNothing, ClosedAfterK, KGrownThenClosed, AnswersAreOne}
use Rattle.runs.proofs.Common.{bars_stay, both_ways}
use Rattle.run_laws.proofs.Numbers.{one_refusal}
use Rattle.runs.specs.declared.calls.Call.{Call}
use Rattle.runs.specs.declared.calls.Answer.{Answer}
use Rattle.runs.specs.declared.calls.State.{State}
use Rattle.runs.specs.declared.calls.Stepped.{Stepped}
use Rattle.runs.specs.declared.calls.Call.TheVariants as call
use Rattle.runs.specs.declared.calls.Answer.TheVariants as answer
use Rattle.runs.specs.declared.calls.State.TheVariants as state
use Rattle.runs.specs.declared.calls.Stepped.TheVariants as stepped

-- one of a list
abbrev In : Given → List Given → Type 0
In g [] = ⊥
In g (x ∷ xs) = (g ≡ x) ⊎ In g xs

all_in : (P : Given → Type 0) (gs : List Given) (g : Given) → AllByRecursion P gs → In g gs → P g
all_in P [] g a i = absurd i
all_in P (x ∷ xs) g a i = ⊎_elim (λ e. subst P (sym e) a.0) (λ k. all_in P xs g a.1 k) i

-- what was given is kept until a bar or unbar is obeyed
given_kept : (i : ℕ) (after : List ℕ) (b : Result Answer Refusal) (p : Epoch) (g : Given) → (b ≡ Ok answer.Done → ⊥) → In g p.given → In g (after_answer i after b p).given
given_kept i after (Ok answer.Done) p g n k = absurd (n refl)
given_kept i after (Ok (answer.Stepped stepped.Grown)) p g n k = k
given_kept i after (Ok (answer.Stepped stepped.Closed)) p g n k = k
given_kept i after (Ok (answer.Stepped stepped.Blocked)) p g n k = k
given_kept i after (Ok (answer.Planned m)) p g n k = k
given_kept i after (Ok (answer.Routed m)) p g n k = inr k
given_kept i after (Err r) p g n k = k

gave_in : (h : History) (e : Event) (i : ℕ) (r : List ℕ) → Since e h → Gave e i r → In (i, r) (epoch h).given
gave_in [] e i r s k = absurd s
gave_in (f ∷ h) e i r s k =
    ⊎_elim
    (λ q. subst (λ f. In (i, r) (epoch (f ∷ h)).given) q
    (subst (λ b. In (i, r) (after_answer (index e.call) e.after b (epoch h)).given) (sym k.2)
    (inl (ap₂ (λ a b. (a, b)) (sym (ap index k.1)) (sym k.3)))))
    (λ q. given_kept (index f.call) f.after f.answer (epoch h) (i, r) q.0 (gave_in h e i r q.1 k)) s

apart_at : (bars : Wires) (rs : List (List ℕ)) → Apart bars rs → (i j : ℕ) → i < length rs → j < length rs → (i ≡ j → ⊥)
    → (w : ℕ) → has w (get_or rs i []) ≡ true → has w (get_or rs j []) ≡ true → bars w ≡ true
apart_at bars [] a i j h k n w p q = absurd (omega arith)
apart_at bars (r ∷ rs) a zero zero h k n w p q = absurd (n refl)
apart_at bars (r ∷ rs) a zero (suc j) h k n w p q =
    All-get_or (λ s. (w : ℕ) → has w r ≡ true → has w s ≡ true → bars w ≡ true) rs j [] (omega arith) a.0 w p q
apart_at bars (r ∷ rs) a (suc i) zero h k n w p q =
    All-get_or (λ s. (w : ℕ) → has w r ≡ true → has w s ≡ true → bars w ≡ true) rs i [] (omega arith) a.0 w q p
apart_at bars (r ∷ rs) a (suc i) (suc j) h k n w p q = apart_at bars rs a.1 i j (omega arith) (omega arith) (λ e. n (ap suc e)) w p q

stand_apart : (c : List Making) (bars : Wires) (s : State) (k : ℕ) (gs : List Given) → RoutesStand c bars s k gs
    → (i j : ℕ) (r q : List ℕ) → In (i, r) gs → In (j, q) gs
    → Route c r × (s ≡ state.Blocked → AllByRecursion (λ w. bars w ≡ true) r) × (i ≡ j → r ≡ q)
    × ((i ≡ j → ⊥) → (w : ℕ) → has w r ≡ true → has w q ≡ true → bars w ≡ true)
stand_apart c bars state.Open k gs st i j r q m n = absurd (subst (λ gs. In (i, r) gs) st m)
stand_apart c bars state.Closed k gs st i j r q m n =
    let a : IsAt st.0 (i, r) = all_in (IsAt st.0) gs (i, r) st.4 m in
    let b : IsAt st.0 (j, q) = all_in (IsAt st.0) gs (j, q) st.4 n in (
      subst (Route c) a.1 (All-get_or (Route c) st.0 i [] a.0 st.1),
      λ e. absurd (true≢false (sym (ap is_blocked e))),
      λ e. sym a.1 ∙ ap (λ i. get_or st.0 i []) e ∙ b.1,
      λ d w p o. apart_at bars st.0 st.2 i j a.0 b.0 d w (subst (λ r. has w r ≡ true) (sym a.1) p) (subst (λ r. has w r ≡ true) (sym b.1) o),
    )
stand_apart c bars state.Blocked k gs st i j r q m n =
    let a : IsAt (st.0 ∷ []) (i, r) = all_in (IsAt (st.0 ∷ [])) gs (i, r) st.3 m in
    let b : IsAt (st.0 ∷ []) (j, q) = all_in (IsAt (st.0 ∷ [])) gs (j, q) st.3 n in
    let same : st.0 ≡ r = sym (ap (λ i. get_or (st.0 ∷ []) i []) (first a.0)) ∙ a.1 in (
      subst (Route c) same st.1,
      λ e. subst (λ r. AllByRecursion (λ w. bars w ≡ true) r) same st.2,
      λ e. sym a.1 ∙ ap (λ i. get_or (st.0 ∷ []) i []) e ∙ b.1,
      λ d. absurd (d (first a.0 ∙ sym (first b.0))),
    )
  where
    first : {i : ℕ} → i < 1 → i ≡ 0
    first h = omega arith

pub routes_stay_apart : RoutesStayApart
routes_stay_apart c [] l e f i j r q s t m n = absurd s
routes_stay_apart c (x ∷ h) l e f i j r q s t m n =
    stand_apart c (barred (x ∷ h)) (epoch (x ∷ h)).state (epoch (x ∷ h)).grown (epoch (x ∷ h)).given l.3 i j r q (gave_in (x ∷ h) e i r s m) (gave_in (x ∷ h) f j q t n)

-- an obeyed call does not answer a refusal
ok≢err : {a : Answer} {r : Refusal} → ◌≡◌ {A = Result Answer Refusal} (Ok a) (Err r) → ⊥
ok≢err e = let z : ◌≡◌ {A = ℕ} 0 1 = cc in omega arith

not_refused : (c : List Making) (bars : Wires) (k : ℕ) (a : Call) (m : List ℕ) (b : Result Answer Refusal) (n : List ℕ) (r : Refusal) → Obeyed c bars k a m b n → b ≡ Err r → ⊥
not_refused c bars k (call.Bar w) m b n r o e = ok≢err (sym o.0 ∙ e)
not_refused c bars k (call.Unbar w) m b n r o e = ok≢err (sym o.0 ∙ e)
not_refused c bars k call.Step m b n r o e = ok≢err (sym o.1 ∙ e)
not_refused c bars k (call.Plan u) m b n r o e = ok≢err (sym o.1 ∙ e)
not_refused c bars k (call.Route i u) m b n r o e = ok≢err (sym o.1 ∙ e)

same_refusal : (r s : Refusal) → ◌≡◌ {A = Result Answer Refusal} (Err r) (Err s) → r ≡ s
same_refusal r s e = cc

-- a refusal is by the first fault
by_fault : (c : List Making) (bars : Wires) (k : ℕ) (e : Event) (r : Refusal) (o : Option ℕ) → Answered o c bars k e → e.answer ≡ Err r
    → (o ≡ Some (number_of r)) × (e.after ≡ e.before)
by_fault c bars k e r (Some n) a q = (ap Some (sym a.1 ∙ ap number_of (same_refusal a.0 r (sym a.2 ∙ q))), a.3)
by_fault c bars k e r None a q = absurd (not_refused c bars k e.call e.before e.answer e.after r a q)

pub refusals_alter_nothing : RefusalsAlterNothing
refusals_alter_nothing c h e r l q =
    let f : (first_fault (faults c (barred h) (epoch h).state (epoch h).grown e.call) ≡ Some (number_of r)) × (e.after ≡ e.before) =
    by_fault c (barred h) (epoch h).grown e r (first_fault (faults c (barred h) (epoch h).state (epoch h).grown e.call)) l.2 q in (
      f.1,
      ap (λ a. cond (refused_by_12 a) (barred h) (set_or_lifted e.call (barred h))) q
          ∙ bars_stay c (barred h) (epoch h).state (epoch h).grown e.call (number_of r) f.0,
      ap (λ a. after_answer (index e.call) e.after a (epoch h)) q,
    )

-- the bars stay until a bar or unbar is obeyed
bars_kept : (c : List Making) (bars : Wires) (st : State) (k : ℕ) (a : Call) (m : List ℕ) (b : Result Answer Refusal) (n : List ℕ) → (o : Option ℕ) → first_fault (faults c bars st k a) ≡ o
    → Answered o c bars k (record { call = a; before = m; answer = b; after = n }) → (b ≡ Ok answer.Done → ⊥)
    → cond (refused_by_12 b) bars (set_or_lifted a bars) ≡ bars
bars_kept c bars st k a m b n (Some x) f d u =
    ap (λ b. cond (refused_by_12 b) bars (set_or_lifted a bars)) d.2
    ∙ ap (λ x. cond (eqb x 12) bars (set_or_lifted a bars)) d.1
    ∙ bars_stay c bars st k a x f
bars_kept c bars st k (call.Bar w) m b n None f d u = absurd (u d.0)
bars_kept c bars st k (call.Unbar w) m b n None f d u = absurd (u d.0)
bars_kept c bars st k call.Step m b n None f d u = both_ways (refused_by_12 b) bars
bars_kept c bars st k (call.Plan v) m b n None f d u = both_ways (refused_by_12 b) bars
bars_kept c bars st k (call.Route i v) m b n None f d u = both_ways (refused_by_12 b) bars

-- that of a step
abbrev is_stepped : Result Answer Refusal → Bool
is_stepped (Ok answer.Done) = false
is_stepped (Ok (answer.Stepped g)) = true
is_stepped (Ok (answer.Planned k)) = false
is_stepped (Ok (answer.Routed n)) = false
is_stepped (Err r) = false

same_step : (g d : Stepped) → ◌≡◌ {A = Result Answer Refusal} (Ok (answer.Stepped g)) (Ok (answer.Stepped d)) → g ≡ d
same_step g d e = cc

-- only a step that is obeyed answers so
from_step : (c : List Making) (bars : Wires) (st : State) (k : ℕ) (a : Call) (m : List ℕ) (g : Stepped) (n : List ℕ) → (o : Option ℕ) → first_fault (faults c bars st k a) ≡ o
    → Answered o c bars k (record { call = a; before = m; answer = Ok (answer.Stepped g); after = n })
    → (first_fault (faults c bars st k call.Step) ≡ None) × Steps c bars k g
from_step c bars st k a m g n (Some x) f d = absurd (ok≢err d.2)
from_step c bars st k (call.Bar w) m g n None f d = absurd (true≢false (ap is_stepped d.0))
from_step c bars st k (call.Unbar w) m g n None f d = absurd (true≢false (ap is_stepped d.0))
from_step c bars st k call.Step m g n None f d = (f, subst (Steps c bars k) (sym (same_step g d.0 d.1)) d.2)
from_step c bars st k (call.Plan v) m g n None f d = absurd (true≢false (ap is_stepped d.1))
from_step c bars st k (call.Route i v) m g n None f d = absurd (true≢false (ap is_stepped d.1))

step_open : (st : State) → first_fault ((not (is_open st), 17) ∷ []) ≡ None → st ≡ state.Closed → ⊥
step_open state.Open f e = true≢false (ap is_open e)
step_open state.Closed f e = none-some 17 (sym f)
step_open state.Blocked f e = none-some 17 (sym f)

-- smallest plans have as many wires
same_size : (c : List Making) (bars : Wires) (p q : List ℕ) → Smallest c bars p → Smallest c bars q → length p ≡ length q
same_size c bars p q f g = omega (arith, ((smallest_is_fewest c bars p).0 f).1 q g.fits, ((smallest_is_fewest c bars q).0 g).1 p f.fits)

-- the count when closed, by the newest answer
module _ (c : List Making) (h : History) (a : Call) (m n : List ℕ) (p : List ℕ)
    (before : (epoch h).state ≡ state.Closed → Smallest c (barred h) p → (epoch h).grown ≡ length p) where
  abbrev AnswersNow : Result Answer Refusal → Type 0
  AnswersNow b = Answers c (barred h) (epoch h).state (epoch h).grown (record { call = a; before = m; answer = b; after = n })

  abbrev SmallNow : Result Answer Refusal → Type 0
  SmallNow b = Smallest c (cond (refused_by_12 b) (barred h) (set_or_lifted a (barred h))) p

  as_before : (b : Result Answer Refusal) → AnswersNow b → (b ≡ Ok answer.Done → ⊥) → SmallNow b → Smallest c (barred h) p
  as_before b l u f =
      subst (λ bars. Smallest c bars p)
      (bars_kept c (barred h) (epoch h).state (epoch h).grown a m b n (first_fault (faults c (barred h) (epoch h).state (epoch h).grown a)) refl l u) f

  stepped_then : (g : Stepped) → AnswersNow (Ok (answer.Stepped g))
      → (first_fault (faults c (barred h) (epoch h).state (epoch h).grown call.Step) ≡ None) × Steps c (barred h) (epoch h).grown g
  stepped_then g l =
      from_step c (barred h) (epoch h).state (epoch h).grown a m g n (first_fault (faults c (barred h) (epoch h).state (epoch h).grown a)) refl l

  counted : (b : Result Answer Refusal) → AnswersNow b → (after_answer (index a) n b (epoch h)).state ≡ state.Closed → SmallNow b
      → (after_answer (index a) n b (epoch h)).grown ≡ length p
  counted (Ok answer.Done) l s f = absurd (true≢false (ap is_open s))
  counted (Ok (answer.Stepped stepped.Grown)) l s f = absurd (step_open (epoch h).state (stepped_then stepped.Grown l).0 s)
  counted (Ok (answer.Stepped stepped.Closed)) l s f =
      let q : (q : List ℕ) × Smallest c (barred h) q × ((epoch h).grown ≡ length q) = (stepped_then stepped.Closed l).1.1 in
      q.2 ∙ same_size c (barred h) q.0 p q.1 (as_before (Ok (answer.Stepped stepped.Closed)) l (λ e. let z : ◌≡◌ {A = ℕ} 0 1 = cc in omega arith) f)
  counted (Ok (answer.Stepped stepped.Blocked)) l s f = absurd (true≢false (ap is_blocked s))
  counted (Ok (answer.Planned k)) l s f = before s (as_before (Ok (answer.Planned k)) l (λ e. let z : ◌≡◌ {A = ℕ} 0 1 = cc in omega arith) f)
  counted (Ok (answer.Routed k)) l s f = before s (as_before (Ok (answer.Routed k)) l (λ e. let z : ◌≡◌ {A = ℕ} 0 1 = cc in omega arith) f)
  counted (Err r) l s f = before s (as_before (Err r) l (λ e. let z : ◌≡◌ {A = ℕ} 0 1 = cc in omega arith) f)

pub closed_after_k : ClosedAfterK
closed_after_k c [] l s p f = absurd (true≢false (ap is_open s))
closed_after_k c (e ∷ h) l s p f =
    counted c h e.call e.before e.after p (λ s f. closed_after_k c h l.0 s p f) e.answer l.2 s f

-- what a step answers
what_stepped : (c : List Making) (bars : Wires) (k : ℕ) (b : Stepped) → Steps c bars k b
    → ((b ≡ stepped.Grown) × Steps c bars k stepped.Grown) ⊎ (((b ≡ stepped.Closed) × Steps c bars k stepped.Closed) ⊎ ((b ≡ stepped.Blocked) × Blocked c bars))
what_stepped c bars k stepped.Grown s = inl (refl, s)
what_stepped c bars k stepped.Closed s = inr (inl (refl, s))
what_stepped c bars k stepped.Blocked s = inr (inr (refl, s))

not_both_steps : (c : List Making) (bars : Wires) (k : ℕ) → Steps c bars k stepped.Grown → Steps c bars k stepped.Closed → ⊥
not_both_steps c bars k s t = omega (arith, s.1.2, t.1.2, same_size c bars s.1.0 t.1.0 s.1.1 t.1.1)

one_step : (c : List Making) (bars : Wires) (k : ℕ) (b d : Stepped) → Steps c bars k b → Steps c bars k d → b ≡ d
one_step c bars k b d s t =
    ⊎_elim
    (λ p. ⊎_elim (λ q. p.0 ∙ sym q.0) (⊎_elim (λ q. absurd (not_both_steps c bars k p.1 q.1)) (λ q. absurd (p.1.0 q.1))) (what_stepped c bars k d t))
    (⊎_elim
    (λ p. ⊎_elim (λ q. absurd (not_both_steps c bars k q.1 p.1)) (⊎_elim (λ q. p.0 ∙ sym q.0) (λ q. absurd (p.1.0 q.1))) (what_stepped c bars k d t))
    (λ p. ⊎_elim (λ q. absurd (q.1.0 p.1)) (⊎_elim (λ q. absurd (q.1.0 p.1)) (λ q. p.0 ∙ sym q.0)) (what_stepped c bars k d t)))
    (what_stepped c bars k b s)

one_answer : (c : List Making) → Ordered c → (bars : Wires) (k : ℕ) (a : Call) (m : List ℕ) (b d : Result Answer Refusal) (n o : List ℕ) (f : Option ℕ)
    → Answered f c bars k (record { call = a; before = m; answer = b; after = n }) → Answered f c bars k (record { call = a; before = m; answer = d; after = o })
    → length m ≡ room_of a
    → ((b ≡ d) × (n ≡ o))
    ⊎ ((i : ℕ) × (r : List ℕ) × (q : List ℕ) × (a ≡ call.Route i (length m)) × (b ≡ Ok (answer.Routed (length r))) × (d ≡ Ok (answer.Routed (length q))))
one_answer c ordered bars k a m b d n o (Some f) x y l =
    inl (x.2 ∙ ap Err (one_refusal x.0 y.0 (x.1 ∙ sym y.1)) ∙ sym y.2, x.3 ∙ sym y.3)
one_answer c ordered bars k (call.Bar w) m b d n o None x y l = inl (x.0 ∙ sym y.0, x.1 ∙ sym y.1)
one_answer c ordered bars k (call.Unbar w) m b d n o None x y l = inl (x.0 ∙ sym y.0, x.1 ∙ sym y.1)
one_answer c ordered bars k call.Step m b d n o None x y l = inl (x.1 ∙ ap (λ g. Ok (answer.Stepped g)) (one_step c bars k x.0 y.0 x.2 y.2) ∙ sym y.1, x.3 ∙ sym y.3)
one_answer c ordered bars k (call.Plan v) m b d n o None x y l =
    let same : x.0 ≡ y.0 = earliest_is_one c ordered bars ones (λ w. omega arith) x.0 y.0 x.3.earliest y.3.earliest in
    inl (x.1 ∙ ap (λ ps. Ok (answer.Planned (length ps))) same ∙ sym y.1, x.2.1 ∙ ap (λ ps. ps ++ drop (length ps) m) same ∙ sym y.2.1)
one_answer c ordered bars k (call.Route i v) m b d n o None x y l = inr (i, x.0, y.0, ap (call.Route i) (sym l), x.1, y.1)

pub answers_are_one : AnswersAreOne
answers_are_one c ordered h a m b d n o l k =
    one_answer c ordered (barred h) (epoch h).grown a m b d n o (first_fault (faults c (barred h) (epoch h).state (epoch h).grown a)) l.2 k.2 l.1

-- steps from a new epoch on
module _ (c : List Making) (ordered : Ordered c) (h : History) (new : epoch h ≡ new_epoch) (p : List ℕ) (small : Smallest c (barred h) p) where
  -- after m steps that answered grown
  record Grew (steps : History) (m : ℕ) : Type 0 where
    answers_are : map (λ e. e.answer) steps ≡ replicate m (Ok (answer.Stepped stepped.Grown))
    epoch_is : epoch (steps ++ h) ≡ record { state = state.Open; grown = m; given = [] }
    bars_are : barred (steps ++ h) ≡ barred h

  not_blocked : Blocked c (barred h) → ⊥
  not_blocked b = blocked_has_no_plan c ordered (barred h) b p small.fits

  next_step : (e : Event) (steps : History) (m : ℕ) → e.call ≡ call.Step → Grew steps m → Answers c (barred (steps ++ h)) (epoch (steps ++ h)).state (epoch (steps ++ h)).grown e
      → ((e.answer ≡ Ok (answer.Stepped stepped.Grown)) × (m < length p)) ⊎ ((e.answer ≡ Ok (answer.Stepped stepped.Closed)) × (m ≡ length p))
  next_step e steps m q k a =
      let b : Answers c (barred h) state.Open m e =
      subst (λ z. Answers c (barred h) z.state z.grown e) k.epoch_is
      (subst (λ bars. Answers c bars (epoch (steps ++ h)).state (epoch (steps ++ h)).grown e) k.bars_are a) in
      let s : (g : Stepped) × (e.answer ≡ Ok (answer.Stepped g)) × Steps c (barred h) m g × (e.after ≡ e.before) =
      subst (λ z. Answers c (barred h) state.Open m (record { call = z; before = e.before; answer = e.answer; after = e.after })) q b in
      ⊎_elim
      (λ t. inl (s.1 ∙ ap (λ g. Ok (answer.Stepped g)) t.0, omega (arith, t.1.1.2, same_size c (barred h) t.1.1.0 p t.1.1.1 small)))
      (⊎_elim
      (λ t. inr (s.1 ∙ ap (λ g. Ok (answer.Stepped g)) t.0, omega (arith, t.1.1.2, same_size c (barred h) t.1.1.0 p t.1.1.1 small)))
      (λ t. absurd (not_blocked t.1)))
      (what_stepped c (barred h) m s.0 s.2)

  grew : (steps : History) → AllByRecursion (λ e. e.call ≡ call.Step) steps → LawfulRun c (steps ++ h) → length steps ≤ length p → Grew steps (length steps)
  grew [] a l k = record { answers_are = refl; epoch_is = new; bars_are = refl }
  grew (e ∷ steps) a l k =
      let b : Grew steps (length steps) = grew steps a.1 l.0 (omega arith) in
      ⊎_elim
      (λ t. record {
        answers_are = ap₂ (λ x xs. x ∷ xs) t.0 b.answers_are;
        epoch_is = ap₂ (λ x z. after_answer (index e.call) e.after x z) t.0 b.epoch_is;
        bars_are = ap₂ (λ x y. cond (refused_by_12 x) (barred (steps ++ h)) (set_or_lifted y (barred (steps ++ h)))) t.0 a.0 ∙ b.bars_are;
      })
      (λ t. absurd (omega (arith, t.1)))
      (next_step e steps (length steps) a.0 b l.2)

  closes : (steps : History) → AllByRecursion (λ e. e.call ≡ call.Step) steps → LawfulRun c (steps ++ h) → length steps ≡ suc (length p)
      → map (λ e. e.answer) steps ≡ Ok (answer.Stepped stepped.Closed) ∷ replicate (length p) (Ok (answer.Stepped stepped.Grown))
  closes [] a l k = absurd (omega arith)
  closes (e ∷ steps) a l k =
      let same : length steps ≡ length p = omega arith in
      let b : Grew steps (length steps) = grew steps a.1 l.0 (omega arith) in
      ⊎_elim
      (λ t. absurd (omega (arith, t.1)))
      (λ t. ap₂ (λ x xs. x ∷ xs) t.0 (b.answers_are ∙ ap (λ n. replicate n (Ok (answer.Stepped stepped.Grown))) same))
      (next_step e steps (length steps) a.0 b l.2)

pub k_grown_then_closed : KGrownThenClosed
k_grown_then_closed c ordered h new p small steps a l =
    (λ k. (grew c ordered h new p small steps a l k).answers_are, closes c ordered h new p small steps a l)

pub tested_in_order : TestedInOrder
tested_in_order c bars s k (call.Bar w) = refl
tested_in_order c bars s k (call.Unbar w) = refl
tested_in_order c bars s k call.Step = refl
tested_in_order c bars s k (call.Plan n) = refl
tested_in_order c bars s k (call.Route i n) = refl

-- refused by 12 just where the rank is not of a produced wire
by_12 : (c : List Making) (bars : Wires) (k : ℕ) (p q : Bool) (x : ℕ) (a : Call) (m : List ℕ) (b : Result Answer Refusal) (n : List ℕ) → eqb x 12 ≡ false
    → Answered (first_fault ((p, 12) ∷ (q, x) ∷ [])) c bars k (record { call = a; before = m; answer = b; after = n })
    → (Obeyed c bars k a m b n → b ≡ Ok answer.Done) → refused_by_12 b ≡ p
by_12 c bars k true q x a m b n other d done = ap refused_by_12 d.2 ∙ ap (λ y. eqb y 12) d.1
by_12 c bars k false true x a m b n other d done = ap refused_by_12 d.2 ∙ ap (λ y. eqb y 12) d.1 ∙ other
by_12 c bars k false false x a m b n other d done = ap refused_by_12 (done d)

set_parts : (w v : ℕ) (x : Bool) → (eqb w v || x) ≡ true → (w ≡ v) ⊎ (x ≡ true)
set_parts w v x h = ⊎_elim (λ e. inl (eqb-true w v e)) inr (or_cases (eqb w v) x h)

-- a barred wire is produced
module _ (c : List Making) where
  abbrev unfit : ℕ → Bool
  unfit w = not (produced_at c w)

  bar_12 : (bars : Wires) (st : State) (k v : ℕ) (m : List ℕ) (b : Result Answer Refusal) (n : List ℕ) → Answers c bars st k (record { call = call.Bar v; before = m; answer = b; after = n })
      → refused_by_12 b ≡ unfit v
  bar_12 bars st k v m b n d = by_12 c bars k (unfit v) (bars v) 15 (call.Bar v) m b n refl d (λ o. o.0)

  unbar_12 : (bars : Wires) (st : State) (k v : ℕ) (m : List ℕ) (b : Result Answer Refusal) (n : List ℕ) → Answers c bars st k (record { call = call.Unbar v; before = m; answer = b; after = n })
      → refused_by_12 b ≡ unfit v
  unbar_12 bars st k v m b n d = by_12 c bars k (unfit v) (not (bars v)) 16 (call.Unbar v) m b n refl d (λ o. o.0)

  -- the bars after one call
  one_call : (bars : Wires) (st : State) (k : ℕ) (a : Call) (m : List ℕ) (b : Result Answer Refusal) (n : List ℕ) → Answers c bars st k (record { call = a; before = m; answer = b; after = n })
      → ((w : ℕ) → bars w ≡ true → unfit w ≡ false) → (r : Bool) → refused_by_12 b ≡ r → (w : ℕ) → cond r bars (set_or_lifted a bars) w ≡ true → unfit w ≡ false
  one_call bars st k a m b n d ih true e w x = ih w x
  one_call bars st k (call.Bar v) m b n d ih false e w x =
      ⊎_elim (λ s. ap unfit s ∙ sym (bar_12 bars st k v m b n d) ∙ e) (ih w) (set_parts w v (bars w) x)
  one_call bars st k (call.Unbar v) m b n d ih false e w x = ih w (and_parts (not (eqb w v)) (bars w) x).1
  one_call bars st k call.Step m b n d ih false e w x = ih w x
  one_call bars st k (call.Plan u) m b n d ih false e w x = ih w x
  one_call bars st k (call.Route i u) m b n d ih false e w x = ih w x

  barred_fit : (h : History) → LawfulRun c h → (w : ℕ) → barred h w ≡ true → unfit w ≡ false
  barred_fit [] l w x = absurd (true≢false (sym x))
  barred_fit (e ∷ h) l w x =
      one_call (barred h) (epoch h).state (epoch h).grown e.call e.before e.answer e.after l.2 (barred_fit h l.0) (refused_by_12 e.answer) refl w x

  unfit_free : (h : History) → LawfulRun c h → (w : ℕ) → unfit w ≡ true → barred h w ≡ false
  unfit_free h l w u = ⊎_elim (λ x. absurd (true≢false (sym u ∙ barred_fit h l w x))) (λ x. x) (cases_Bool (barred h w))

  -- the last bar or unbar of the rank, by the newest call
  last_call : (bars : Wires) (st : State) (k : ℕ) (a : Call) (m : List ℕ) (b : Result Answer Refusal) (n : List ℕ) → Answers c bars st k (record { call = a; before = m; answer = b; after = n })
      → ((w : ℕ) → unfit w ≡ true → bars w ≡ false) → (r : Bool) → refused_by_12 b ≡ r → (w : ℕ)
      → cond r bars (set_or_lifted a bars) w ≡ cond (of_rank a w) (is_bar a && not r) (bars w)
  last_call bars st k (call.Bar v) m b n d free r e w = ⊎_elim (λ s. there r e s) (λ s. elsewhere r s) (cases_Bool (eqb w v))
    where
      there : (r : Bool) → refused_by_12 b ≡ r → eqb w v ≡ true → cond r bars (set_or_lifted (call.Bar v) bars) w ≡ cond (eqb w v) (not r) (bars w)
      there true e s = free w (ap unfit (eqb-true w v s) ∙ sym (bar_12 bars st k v m b n d) ∙ e) ∙ sym (ap (λ t. cond t false (bars w)) s)
      there false e s = ap (λ t. t || bars w) s ∙ sym (ap (λ t. cond t true (bars w)) s)

      elsewhere : (r : Bool) → eqb w v ≡ false → cond r bars (set_or_lifted (call.Bar v) bars) w ≡ cond (eqb w v) (not r) (bars w)
      elsewhere true s = sym (ap (λ t. cond t false (bars w)) s)
      elsewhere false s = ap (λ t. t || bars w) s ∙ sym (ap (λ t. cond t true (bars w)) s)
  last_call bars st k (call.Unbar v) m b n d free r e w = ⊎_elim (λ s. there r e s) (λ s. elsewhere r s) (cases_Bool (eqb w v))
    where
      there : (r : Bool) → refused_by_12 b ≡ r → eqb w v ≡ true → cond r bars (set_or_lifted (call.Unbar v) bars) w ≡ cond (eqb w v) false (bars w)
      there true e s = free w (ap unfit (eqb-true w v s) ∙ sym (unbar_12 bars st k v m b n d) ∙ e) ∙ sym (ap (λ t. cond t false (bars w)) s)
      there false e s = ap (λ t. not t && bars w) s ∙ sym (ap (λ t. cond t false (bars w)) s)

      elsewhere : (r : Bool) → eqb w v ≡ false → cond r bars (set_or_lifted (call.Unbar v) bars) w ≡ cond (eqb w v) false (bars w)
      elsewhere true s = sym (ap (λ t. cond t false (bars w)) s)
      elsewhere false s = ap (λ t. not t && bars w) s ∙ sym (ap (λ t. cond t false (bars w)) s)
  last_call bars st k call.Step m b n d free r e w = ap (λ f. f w) (both_ways r bars)
  last_call bars st k (call.Plan u) m b n d free r e w = ap (λ f. f w) (both_ways r bars)
  last_call bars st k (call.Route i u) m b n d free r e w = ap (λ f. f w) (both_ways r bars)

pub barred_by_the_last : BarredByTheLast
barred_by_the_last c [] l w = refl
barred_by_the_last c (e ∷ h) l w =
    last_call c (barred h) (epoch h).state (epoch h).grown e.call e.before e.answer e.after l.2 (unfit_free c h l.0) (refused_by_12 e.answer) refl w
    ∙ ap (λ x. cond (of_rank e.call w) (is_bar e.call && not (refused_by_12 e.answer)) x) (barred_by_the_last c h l.0 w)
