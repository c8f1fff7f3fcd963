-- A gate line's inputs and then its results, one by one.
use Rattle.std.proofs.Common.{◌≡◌, ℕ, zero, suc, ◌+◌, ◌-◌, ◌*◌, ◌<◌, ◌≤◌, Bool, true, false, cond, not, ◌&&◌, ◌||◌, ltb, leb, List, [], ◌∷◌, ◌++◌, length, get_or, take, drop, set, Ok, Err, Result, sym, refl, ap, ◌∙◌, subst, ⊎_elim, arith}
use mathlib.Core.Path.{fun_ext}
use Rattle.std.proofs.lemmas.List.{at_drop_more, at_drop_all, take-append-drop, take-take, length-take-le, length-set, take-set-le, get_or_past}
use Rattle.std.proofs.lemmas.Bool.{cond-true, lt-ltb, le-ltb, ltb-true, cases_Bool, cases_lt, and_parts, not-true}
use Rattle.std.proofs.lemmas.Bool.Decides.{nat_tests}
use Rattle.circuits.specs.declared.making.Entry.{Entry}
use Rattle.circuits.specs.declared.making.Making.TheVariants as making
use Rattle.circuits.specs.declared.answer.Refusal.TheVariants as refusal
use Rattle.tokens.specs.declared.fault.Fault.{Fault}
use Rattle.tokens.specs.declared.gate.Gate.{Gate}
use Rattle.tokens.specs.declared.gate.Gate.TheVariants.{Product, Sum, Inversion, Constant, Copy}
use Rattle.tokens.specs.declared.line.GateLine.{GateLine}
use Rattle.tokens.specs.declared.token.Numeral.{Numeral}
use Rattle.reading.specs.declared.wires.Side.{Side}
use Rattle.reading.specs.declared.wires.Side.TheVariants.{In, Out}
use Rattle.tokens.specs.Faults.{fault_at}
use Rattle.tokens.specs.Lines.{listed, number_at, numbers_at, gate_of}
use Rattle.reading.specs.Wires.{refused, side_refusal}
use Rattle.reading.specs.Wires as wires
use Rattle.reading.specs.Texts.{rank, made, input_ok, inputs_ok, making_of, value_at, make, after, line_makes}
use Rattle.reading.specs.Holds.{Held, Keeps, two, making_in, Whole}
use Rattle.reading.proofs.Held.{held_le, rank_grow, keeps_more}
use Rattle.reading.proofs.Tested.{all_fine}
use Rattle.reading.proofs.Stand.{Stands, stands_first, stands_next, stands_end, rows_length}

abbrev pub none : Numeral
none = record { value = 0; at = 0 }

-- the test in memory is the test of the wires made so far
module _ (count : ℕ) (es table : List Entry) (ranks : List ℕ) (h : Held count es table ranks) where
  pub made_is : (n : ℕ) → wires.has_rank ranks n ≡ made es n
  made_is n =
      ⊎_elim
      (λ lt.
      ⊎_elim
      (λ y. let r : get_or ranks n 0 ≡ rank es n = h.known n lt y in
      let s : rank es n < length es = ltb-true _ _ y in
      let small : length es ≤ count = held_le count es table ranks h in
      sym (y ∙ sym (grind (arith, nat_tests, h.names))))
      (λ f. let r : get_or ranks n 0 ≡ count = h.others n lt f in
      let b : ltb (get_or ranks n 0) (length ranks) ≡ false = le-ltb _ _ (omega (arith, h.names)) in
      grind (arith, nat_tests, h.names))
      (cases_Bool (made es n)))
      (λ ge.
      ⊎_elim
      (λ y. absurd (omega (arith, h.below n y)))
      (λ f. let b : ltb n (length ranks) ≡ false = le-ltb _ _ (omega (arith, h.names)) in ap (λ t. t && ltb (get_or ranks n 0) (length ranks)) b ∙ sym f)
      (cases_Bool (made es n)))
      (cases_lt n count)

  pub refused_in : (m : Gate) (n : ℕ) → refused m In ranks n ≡ not (input_ok m es n)
  refused_in Constant n = grind (arith, nat_tests)
  refused_in Product n = ap not (made_is n)
  refused_in Sum n = ap not (made_is n)
  refused_in Inversion n = ap not (made_is n)
  refused_in Copy n = ap not (made_is n)

  offends_out : (n : ℕ) → (leb (length ranks) n || wires.has_rank ranks n) ≡ not (ltb n count && not (made es n))
  offends_out n = ap (λ b. leb (length ranks) n || b) (made_is n) ∙ grind (arith, nat_tests, h.names)

  pub refused_out : (m : Gate) (n : ℕ) → refused m Out ranks n ≡ not (ltb n count && not (made es n))
  refused_out Constant n = offends_out n
  refused_out Product n = offends_out n
  refused_out Sum n = offends_out n
  refused_out Inversion n = offends_out n
  refused_out Copy n = offends_out n

pub out_in : Out ≡ In → ⊥
out_in e = let z : ◌≡◌ {A = ℕ} 0 1 = cc in omega arith

module _ (text : List ℕ) (count : ℕ) (g : GateLine) (before : List Entry) where
  abbrev pub ins : List Numeral
  ins = (listed (numbers_at text g.inputs g.wires)).0

  abbrev pub in_stop : ℕ
  in_stop = (listed (numbers_at text g.inputs g.wires)).1

  abbrev pub outs : List Numeral
  outs = (listed (numbers_at text g.results in_stop)).0

  abbrev pub out_stop : ℕ
  out_stop = (listed (numbers_at text g.results in_stop)).1

  abbrev pub row : Side → List Numeral
  row In = ins
  row Out = outs

  abbrev pub stop : Side → ℕ
  stop In = in_stop
  stop Out = out_stop

  -- how many results are made when i wires of a side are passed
  abbrev pub gone : Side → ℕ → ℕ
  gone In i = 0
  gone Out i = i

  abbrev pub side_run : Side → ℕ → List Entry → (List Entry → Result (List Entry) Fault) → Result (List Entry) Fault
  side_run In i es next = after (inputs_ok text g.rule.making before (drop i ins)) (λ _. next es)
  side_run Out i es next = after (make text count g.rule.making before ins (length outs) i (drop i outs) es) next

  abbrev pub sides : List Side → List Entry → Result (List Entry) Fault
  sides [] es = Ok es
  sides (s ∷ ss) es = side_run s 0 es (sides ss)

  after_ok : {A : Type 0} (r : Result A Fault) → after r (λ a. Ok a) ≡ r
  after_ok (Ok a) = refl
  after_ok (Err f) = refl

  pub sides_all : sides (In ∷ Out ∷ []) before ≡ line_makes text count before (gate_of text g)
  sides_all = ap (after (inputs_ok text g.rule.making before ins)) (fun_ext (λ _. after_ok (make text count g.rule.making before ins (length outs) 0 outs before)))

  abbrev pub entry : ℕ → ℕ → Entry
  entry i name = record { making = making_of g.rule.making before (value_at ins i) (value_at ins (length outs + i)); name = name }

  abbrev pub passes : Side → List Entry → ℕ → Bool
  passes In es n = input_ok g.rule.making before n
  passes Out es n = ltb n count && not (made es n)

  abbrev pub grown : Side → ℕ → List Entry → ℕ → List Entry
  grown In i es n = es
  grown Out i es n = es ++ entry i n ∷ []

  module _ (next : List Entry → Result (List Entry) Fault) (es : List Entry) (i : ℕ) where
    after_cond : {A B : Type 0} (b : Bool) (r : Result A Fault) (f : Fault) (k : A → Result B Fault) → after (cond b r (Err f)) k ≡ cond b (after r k) (Err f)
    after_cond true r f k = refl
    after_cond false r f k = refl

    pub run_one : (s : Side) → i < length (row s) → side_run s i es next ≡ cond (passes s es (get_or (row s) i none).value) (side_run s (i + 1) (grown s i es (get_or (row s) i none).value) next) (Err (fault_at text (side_refusal s) (get_or (row s) i none).at))
    run_one In lt = at_drop_more (λ l. after (inputs_ok text g.rule.making before l) (λ _. next es)) ins i none lt ∙ after_cond {A = Unit {0}} (passes In es (get_or ins i none).value) (inputs_ok text g.rule.making before (drop (i + 1) ins)) (fault_at text refusal.BadInput (get_or ins i none).at) (λ _. next es)
    run_one Out lt =
        let more : suc i ≡ i + 1 = omega arith in
        at_drop_more (λ l. after (make text count g.rule.making before ins (length outs) i l es) next) outs i none lt
        ∙ after_cond {A = List Entry} (passes Out es (get_or outs i none).value) (make text count g.rule.making before ins (length outs) (suc i) (drop (i + 1) outs) (grown Out i es (get_or outs i none).value)) (fault_at text refusal.BadResult (get_or outs i none).at) next
        ∙ ap (λ k. cond (passes Out es (get_or outs i none).value) (after (make text count g.rule.making before ins (length outs) k (drop (i + 1) outs) (grown Out i es (get_or outs i none).value)) next) (Err (fault_at text refusal.BadResult (get_or outs i none).at))) more

    pub run_done : (s : Side) → length (row s) ≤ i → side_run s i es next ≡ next es
    run_done In le = at_drop_all (λ l. after (inputs_ok text g.rule.making before l) (λ _. next es)) ins i le
    run_done Out le = at_drop_all (λ l. after (make text count g.rule.making before ins (length outs) i l es) next) outs i le

  -- what of the inputs' test is still to do
  abbrev pub inputs_left : Side → ℕ → Result (Unit {0}) Fault
  inputs_left In i = inputs_ok text g.rule.making before (drop i ins)
  inputs_left Out i = Ok tt

  -- i wires of a side are passed
  pub record Inner (first next : ℕ) (side : Side) (i at left right : ℕ) (table : List Entry) (ranks : List ℕ) : Type 0 where
    pub size : length table ≡ count
    pub keeps : Keeps next table ranks
    pub since : first ≤ next
    pub front : take first table ≡ before
    pub idle : side ≡ In → next ≡ first
    pub here : Stands text (row side) (stop side) i at
    pub one : Stands text ins in_stop (gone side i) left
    pub other : two g.rule.making ≡ true → Stands text ins in_stop (length outs + gone side i) right
    pub tested : inputs_ok text g.rule.making before ins ≡ inputs_left side i

  abbrev pub Ready : ℕ → ℕ → List Side → ℕ → ℕ → ℕ → List Entry → List ℕ → Type 0
  Ready first next [] at left right table ranks = (length table ≡ count) × Keeps next table ranks
  Ready first next (s ∷ ss) at left right table ranks = Inner first next s 0 at left right table ranks

  module _ (whole : Whole text g) (first next at left right : ℕ) (table : List Entry) (ranks : List ℕ) where
    pub ins_length : length ins ≡ g.inputs
    ins_length = rows_length text g.inputs g.wires (listed (numbers_at text g.inputs g.wires)) whole.ins

    pub outs_length : length outs ≡ g.results
    outs_length = rows_length text g.results in_stop (listed (numbers_at text g.results in_stop)) whole.outs

    pub ins_first : Stands text ins in_stop 0 g.wires
    ins_first = stands_first text g.inputs g.wires (listed (numbers_at text g.inputs g.wires)) whole.ins

    outs_first : Stands text outs out_stop 0 in_stop
    outs_first = stands_first text g.results in_stop (listed (numbers_at text g.results in_stop)) whole.outs

    -- a side is done: the next is ready
    pub ready_next : (idx i : ℕ) → idx < 2 → Inner first next (get_or (In ∷ Out ∷ []) idx In) i at left right table ranks → length (row (get_or (In ∷ Out ∷ []) idx In)) ≤ i → Ready first next (drop (idx + 1) (In ∷ Out ∷ [])) at left right table ranks
    ready_next zero i lt h le =
        record {
          size = h.size;
          keeps = h.keeps;
          since = h.since;
          front = h.front;
          idle = λ e. h.idle refl;
          here = ap (numbers_at text (length outs - 0)) (stands_end text ins in_stop i at h.here le) ∙ outs_first;
          one = h.one;
          other = h.other;
          tested = h.tested ∙ at_drop_all (inputs_ok text g.rule.making before) ins i le;
        }
    ready_next (suc zero) i lt h le = (h.size, h.keeps)
    ready_next (suc (suc n)) i lt h le = absurd (omega arith)

  module _ (first next : ℕ) (table : List Entry) (ranks : List ℕ) (keeps : Keeps next table ranks) (since : first ≤ next) (front : take first table ≡ before) where
    extends : take next table ≡ before ++ drop first (take next table)
    extends = sym (take-append-drop first (take next table)) ∙ ap (λ l. l ++ drop first (take next table)) (take-take first next table since ∙ front)

    name_same : (a : ℕ) → made before a ≡ true → get_or ranks a 0 ≡ rank before a
    name_same a m =
        let r : rank (take next table) a ≡ rank before a = ap (λ l. rank l a) extends ∙ rank_grow before (drop first (take next table)) a m in
        let low : rank before a < length before = ltb-true _ _ m in
        let len : length before ≡ first = sym (ap length front) ∙ length-take-le first table (omega (arith, keeps.room)) in
        let len' : length (take next table) ≡ next = length-take-le next table keeps.room in
        let y : made (take next table) a ≡ true = lt-ltb _ _ (omega (arith, r, low, len, len')) in
        keeps.held.known a (keeps.held.below a y) y ∙ r

    wire_same : (m : Gate) (a b : ℕ) → input_ok m before a ≡ true → (two m ≡ true → input_ok m before b ≡ true) → making_in m ranks a b ≡ making_of m before a b
    wire_same Product a b ya yb = ap (λ x. making.Product x (get_or ranks b 0)) (name_same a ya) ∙ ap (making.Product (rank before a)) (name_same b (yb refl))
    wire_same Sum a b ya yb = ap (λ x. making.Sum x (get_or ranks b 0)) (name_same a ya) ∙ ap (making.Sum (rank before a)) (name_same b (yb refl))
    wire_same Inversion a b ya yb = ap making.Inversion (name_same a ya)
    wire_same Constant a b ya yb = refl
    wire_same Copy a b ya yb = ap making.Copy (name_same a ya)

  module _ (whole : Whole text g) (first next i at left right : ℕ) (table : List Entry) (ranks : List ℕ) where
    ins_are : length ins ≡ cond (two g.rule.making) (2 * length outs) (length outs)
    ins_are = ins_length whole 0 0 0 0 0 [] [] ∙ whole.counts ∙ ap (λ n. cond (two g.rule.making) (2 * n) n) (sym (outs_length whole 0 0 0 0 0 [] []))

    module _ (h : Inner first next Out i at left right table ranks) (lt : i < length outs) where
      pub one_in : i < length ins
      one_in = grind (arith, nat_tests, ins_are)

      pub other_in : two g.rule.making ≡ true → length outs + i < length ins
      other_in y = grind (arith, nat_tests, ins_are)

      -- the wire that the code makes is the wire that is meant
      pub wire_meant : making_in g.rule.making ranks (value_at ins i) (value_at ins (length outs + i)) ≡ (entry i 0).making
      wire_meant = wire_same first next table ranks h.keeps h.since h.front g.rule.making _ _ (all_fine text before g.rule.making ins tt h.tested i one_in) (λ y. all_fine text before g.rule.making ins tt h.tested (length outs + i) (other_in y))

      -- where a wire has one operand, the second is absent
      pub absent : two g.rule.making ≡ false → value_at ins (length outs + i) ≡ 0
      absent f = let past : length ins ≤ length outs + i = grind (arith, nat_tests, ins_are) in ap (λ n. n.value) (get_or_past ins (length outs + i) none past)

    -- an input passes
    pub inner_in : Inner first next In i at left right table ranks → i < length ins → input_ok g.rule.making before (get_or ins i none).value ≡ true → (n : Numeral) (on : ℕ) → Ok (n, on) ≡ number_at text at → Inner first next In (i + 1) on left right table ranks
    inner_in h lt y n on e =
        record {
          size = h.size;
          keeps = h.keeps;
          since = h.since;
          front = h.front;
          idle = h.idle;
          here = (stands_next text ins in_stop none i at h.here lt n on e).1;
          one = h.one;
          other = h.other;
          tested = h.tested ∙ at_drop_more (inputs_ok text g.rule.making before) ins i none lt ∙ cond-true _ _ _ y;
        }

    -- a result passes, and is made
    module _ (h : Inner first next Out i at left right table ranks) (lt : i < length outs) (n : Numeral) (on : ℕ) (e : Ok (n, on) ≡ number_at text at) (y : passes Out (take next table) n.value ≡ true) where
      pub low : n.value < length table
      low = omega (arith, h.size, ltb-true n.value count (and_parts _ _ y).0)

      fresh : made (take next table) n.value ≡ false
      fresh = not-true _ (and_parts _ _ y).1

      abbrev wire_here : Entry
      wire_here = entry i n.value

      pub grows : Keeps (next + 1) (set table next wire_here) (set ranks n.value next) × (take (next + 1) (set table next wire_here) ≡ take next table ++ wire_here ∷ []) × (next < length table)
      grows = keeps_more next table ranks h.keeps wire_here low fresh

      pub inner_out : (left' right' : ℕ) → Stands text ins in_stop (i + 1) left' → (two g.rule.making ≡ true → Stands text ins in_stop (length outs + i + 1) right') → Inner first (next + 1) Out (i + 1) on left' right' (set table next wire_here) (set ranks n.value next)
      inner_out left' right' one other =
          record {
            size = length-set table next wire_here ∙ h.size;
            keeps = grows.0;
            since = omega (arith, h.since);
            front = take-set-le first table next wire_here h.since ∙ h.front;
            idle = λ q. absurd (out_in q);
            here = (stands_next text outs out_stop none i at h.here lt n on e).1;
            one = one;
            other = λ t. let k : length outs + i + 1 ≡ length outs + (i + 1) = omega arith in subst (λ j. Stands text ins in_stop j right') k (other t);
            tested = h.tested;
          }
