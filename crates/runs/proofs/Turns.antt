-- One turn of a run.
use Rattle.std.proofs.Common.{◌≡◌, ℕ, zero, suc, ◌+◌, ◌-◌, ◌<◌, ◌≤◌, min, false, List, [], ◌∷◌, ◌++◌, reverse, length, get_or, take, drop, set, Result, sym, refl, ap, ◌∙◌, subst, ap₂, append-nil, arith}
use borrow.Rule.Slice.PartMut.{put_mid}
use Rattle.std.proofs.lemmas.List.{reverse-append, length-take, length-drop, take-take, drop-drop, drop-take, take_more, take_more_set, take_all}
use Rattle.std.proofs.lemmas.Slice.{take-put_mid_below, drop-put_mid, between-put_mid}
use Rattle.circuits.specs.declared.answer.Refusal.{Refusal}
use Rattle.circuits.specs.declared.making.Making.{Making}
use Rattle.routes.specs.Routes.{Ordered}
use Rattle.runs.specs.Events.{Event, History, room_of}
use Rattle.runs.specs.Law.{LawfulRun}
use Rattle.runs.specs.Told.{Told, opened, DoesTold, RunTold, new_told, then_told}
use Rattle.runs.specs.Calls.{Called, Came, rooms, events, ran}
use Rattle.runs.specs.declared.calls.Call.{Call}
use Rattle.runs.specs.declared.calls.Answer.{Answer}
use Rattle.runs.proofs.Told.{told_runs_are_lawful}

-- the first j calls were made on a planning that showed this at first
pub record Going {P : Type 0} (circuit : P → List Making) (shows : P → Told → Type 0) (p : P) (calls : List Call) (entry now : List ℕ)
    (answers : List (Result Answer Refusal)) (at j : ℕ) (q : P) : Type 0 where
  pub at_is : at ≡ rooms (take j calls)
  pub rest : drop at now ≡ drop at entry
  pub same : circuit q ≡ circuit p
  pub came : (h : History) → Came (circuit p) (shows p) h → Came (circuit p) (shows q) (ran (take j calls) (take j answers) entry now ++ h)

rooms_more : (xs : List Call) (a : Call) → rooms (xs ++ a ∷ []) ≡ rooms xs + room_of a
rooms_more [] a = omega arith
rooms_more (x ∷ xs) a = omega (arith, rooms_more xs a)

rooms_take : (n : ℕ) (xs : List Call) → rooms (take n xs) ≤ rooms xs
rooms_take zero xs = omega arith
rooms_take (suc n) [] = omega arith
rooms_take (suc n) (x ∷ xs) = omega (arith, rooms_take n xs)

-- the room of the next call
next_room : (calls : List Call) (j : ℕ) (d : Call) → j < length calls → rooms (take (j + 1) calls) ≡ rooms (take j calls) + room_of (get_or calls j d)
next_room calls j d h = ap rooms (take_more calls j d h) ∙ rooms_more (take j calls) (get_or calls j d)

-- the part of the next call fits
next_fits : (calls : List Call) (j : ℕ) (d : Call) → j < length calls → rooms (take j calls) + room_of (get_or calls j d) ≤ rooms calls
next_fits calls j d h = omega (arith, rooms_take (j + 1) calls, next_room calls j d h)

-- also after the places that are counted so far
pub next_within : {P : Type 0} {circuit : P → List Making} {shows : P → Told → Type 0} {p q : P} {calls : List Call} {entry now : List ℕ}
    {answers : List (Result Answer Refusal)} {at j : ℕ} → Going circuit shows p calls entry now answers at j q → (d : Call) → j < length calls
    → at + room_of (get_or calls j d) ≤ rooms calls
next_within {calls = calls} {j = j} g d h = omega (arith, next_fits calls j d h, g.at_is)

abbrev happened : Call → List ℕ → Result Answer Refusal → List ℕ → Event
happened a before b after = record { call = a; before = before; answer = b; after = after }

events_more : (xs : List Call) (ys : List (Result Answer Refusal)) (before after : List ℕ) (a : Call) (b : Result Answer Refusal) → length ys ≡ length xs
    → events (xs ++ a ∷ []) (ys ++ b ∷ []) before after
    ≡ events xs ys before after ++ happened a (take (room_of a) (drop (rooms xs) before)) b (take (room_of a) (drop (rooms xs) after)) ∷ []
events_more [] [] before after a b l = refl
events_more [] (y ∷ ys) before after a b l = absurd (omega arith)
events_more (x ∷ xs) [] before after a b l = absurd (omega arith)
events_more (x ∷ xs) (y ∷ ys) before after a b l =
    ap (λ es. happened x (take (room_of x) before) y (take (room_of x) after) ∷ es)
    (events_more xs ys (drop (room_of x) before) (drop (room_of x) after) a b (omega arith)
    ∙ ap₂ (λ p q. events xs ys (drop (room_of x) before) (drop (room_of x) after) ++ happened a (take (room_of a) p) b (take (room_of a) q) ∷ [])
    (drop-drop (rooms xs) (room_of x) before) (drop-drop (rooms xs) (room_of x) after))

events_same : (xs : List Call) (ys : List (Result Answer Refusal)) (before m n : List ℕ) → take (rooms xs) m ≡ take (rooms xs) n → events xs ys before m ≡ events xs ys before n
events_same [] ys before m n h = refl
events_same (x ∷ xs) [] before m n h = refl
events_same (x ∷ xs) (y ∷ ys) before m n h =
    ap₂ (λ p es. happened x (take (room_of x) before) y p ∷ es)
    (sym (take-take (room_of x) (room_of x + rooms xs) m (omega arith)) ∙ ap (take (room_of x)) h ∙ take-take (room_of x) (room_of x + rooms xs) n (omega arith))
    (events_same xs ys (drop (room_of x) before) (drop (room_of x) m) (drop (room_of x) n)
    (sym (drop-take (room_of x) (rooms xs) m) ∙ ap (drop (room_of x)) h ∙ drop-take (room_of x) (rooms xs) n))

length_take_both : {A B : Type 0} (xs : List A) (ys : List B) (j : ℕ) → length ys ≡ length xs → length (take j ys) ≡ length (take j xs)
length_take_both xs ys j h = length-take j ys ∙ ap (min j) h ∙ sym (length-take j xs)

-- one call more
pub going_on : {P : Type 0} (circuit : P → List Making) (shows : P → Told → Type 0) (p : P) (calls : List Call) (entry now : List ℕ)
    (answers : List (Result Answer Refusal)) (at j : ℕ) (q : P) → Going circuit shows p calls entry now answers at j q
    → j < length calls → length answers ≡ length calls → length now ≡ length entry → rooms calls ≤ length entry
    → (d : Call) (n : ℕ) → n ≡ room_of (get_or calls j d) → (b : Result Answer Refusal) (part : List ℕ) → length part ≡ length (take (at + n - at) (drop at now))
    → (u : P) → Called circuit shows q (get_or calls j d) (take (at + n - at) (drop at now)) b part u
    → Going circuit shows p calls entry (put_mid at (at + n - at) now part) (set answers j b) (at + n) (j + 1) u
going_on circuit shows p calls entry now answers at j q g below same long fits d n en b part lp u called =
    let a : Call = get_or calls j d in
    let k : ℕ = at + n - at in
    let later : List ℕ = put_mid at k now part in
    let is_n : k ≡ n = omega arith in
    let inside : at + n ≤ length now = omega (arith, next_fits calls j d below, g.at_is) in
    let part_long : length part ≡ k = lp ∙ short (drop at now) (rw length-drop (omega arith)) in
    let before_is : take k (drop at now) ≡ take (room_of a) (drop (rooms (take j calls)) entry) =
    ap₂ take (is_n ∙ en) (g.rest ∙ ap (λ q. drop q entry) g.at_is) in
    let after_is : part ≡ take (room_of a) (drop (rooms (take j calls)) later) =
    sym (between-put_mid at k now part (at + n) (omega arith) part_long) ∙ ap₂ take (is_n ∙ en) (ap (λ q. drop q later) g.at_is) in
    let new : Event = happened a (take (room_of a) (drop (rooms (take j calls)) entry)) b (take (room_of a) (drop (rooms (take j calls)) later)) in
    let unchanged : take (rooms (take j calls)) later ≡ take (rooms (take j calls)) now =
    subst (λ q. take q later ≡ take q now) g.at_is (take-put_mid_below at k now part at (omega arith) (omega arith)) in
    let history : ran (take (j + 1) calls) (take (j + 1) (set answers j b)) entry later ≡ new ∷ ran (take j calls) (take j answers) entry now =
    ap₂ (λ xs ys. ran xs ys entry later) (take_more calls j d below) (take_more_set answers j b (omega arith))
    ∙ ap reverse (events_more (take j calls) (take j answers) entry later a b (length_take_both calls answers j same))
    ∙ ap (λ es. reverse (es ++ new ∷ [])) (events_same (take j calls) (take j answers) entry later now unchanged)
    ∙ reverse-append (events (take j calls) (take j answers) entry now) (new ∷ []) in
    record {
      at_is = omega (arith, g.at_is, next_room calls j d below);
      rest = drop-put_mid at k now part (at + n) (omega arith) (omega arith) part_long
          ∙ sym (drop-drop n at now) ∙ ap (drop n) g.rest ∙ drop-drop n at entry;
      same = called.0 ∙ g.same;
      came = λ h from.
          let was : Came (circuit p) (shows q) (ran (take j calls) (take j answers) entry now ++ h) = g.came h from in
          let done : (t : Told) × DoesTold (circuit q) was.0 (happened a (take k (drop at now)) b part) t × shows u t = called.1 was.0 was.1 in
          let does : DoesTold (circuit p) was.0 new done.0 =
          subst (λ w. DoesTold w was.0 new done.0) g.same
          (subst (λ m. DoesTold (circuit q) was.0 (happened a m b (take (room_of a) (drop (rooms (take j calls)) later))) done.0) before_is
          (subst (λ m. DoesTold (circuit q) was.0 (happened a (take k (drop at now)) b m) done.0) after_is done.1)) in
          (done.0, done.2, subst (λ es. RunTold (circuit p) (es ++ h) done.0) (sym history) (then_told was.2 does));
    }
  where
    short : (xs : List ℕ) → at + n - at ≤ length xs → length (take (at + n - at) xs) ≡ at + n - at
    short xs h = rw length-take (omega arith)

-- all calls were made
pub gone : {P : Type 0} {circuit : P → List Making} {shows : P → Told → Type 0} {p q : P} {calls : List Call} {entry now : List ℕ}
    {answers : List (Result Answer Refusal)} {at j : ℕ} → Going circuit shows p calls entry now answers at j q
    → length calls ≤ j → length answers ≡ length calls
    → (drop (rooms calls) now ≡ drop (rooms calls) entry)
    × ((h : History) → Came (circuit p) (shows p) h → Came (circuit p) (shows q) (ran calls answers entry now ++ h))
gone {circuit = circuit} {shows = shows} {p = p} {q = q} {calls = calls} {entry = entry} {now = now} {answers = answers} {at = at} {j = j} g below same =
    let all_calls : take j calls ≡ calls = take_all j calls below in
    let all_answers : take j answers ≡ answers = take_all j answers (omega arith) in (
      subst (λ n. drop n now ≡ drop n entry) (g.at_is ∙ ap rooms all_calls) g.rest,
      λ h from. subst (λ ys. Came (circuit p) (shows q) (ran calls ys entry now ++ h)) all_answers
          (subst (λ xs. Came (circuit p) (shows q) (ran xs (take j answers) entry now ++ h)) all_calls (g.came h from)),
    )

-- a run on a new planning is lawful
pub lawful : (wires : List Making) (this that : Told → Type 0) (es : History) → ((h : History) → Came wires this h → Came wires that (es ++ h))
    → Ordered wires → this (opened (λ w. false)) → LawfulRun wires es
lawful wires this that es went ordered new =
    let end : Came wires that (es ++ []) = went [] (opened (λ w. false), new, new_told) in
    subst (LawfulRun wires) (append-nil es) (told_runs_are_lawful wires ordered (es ++ []) end.0 end.2)
