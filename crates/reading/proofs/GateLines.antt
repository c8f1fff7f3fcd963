-- A gate line that was read, and what it stands for.
use Rattle.std.proofs.Common.{◌≡◌, ℕ, ◌+◌, ◌*◌, true, false, cond, List, [], ◌∷◌, length, Some, None, Ok, Err, Option, Result, sym, refl, ap, ◌∙◌, subst, ⊎_elim, arith}
use Rattle.std.specs.Str.{bytes_eq}
use Rattle.std.proofs.lemmas.Bool.{cond-true, cond-false, cases_Bool}
use Rattle.std.proofs.lemmas.Bool.Decides.{nat_tests}
use Rattle.circuits.specs.declared.making.Entry.{Entry}
use Rattle.circuits.specs.declared.answer.Refusal.TheVariants as refusal
use Rattle.tokens.specs.declared.fault.Fault.{Fault}
use Rattle.tokens.specs.declared.gate.Rule.{Rule}
use Rattle.tokens.specs.declared.line.GateLine.{GateLine}
use Rattle.tokens.specs.declared.token.Numeral.{Numeral}
use Rattle.tokens.specs.Faults.{fault_at}
use Rattle.tokens.specs.Gates as gates
use Rattle.tokens.specs.Gates.{look_up, rule_of}
use Rattle.tokens.specs.Tokens.{Piece, number, word, end, token_at}
use Rattle.tokens.specs.Lines.{Parsed, then, landed, listed, known, number_at, numbers_at, pass_at, rule_at, rule_in, end_at, line_at, gate_at, gate_of}
use Rattle.reading.specs.Texts.{suits, after, gate, gate_in, line_makes}
use Rattle.reading.specs.Holds.{two, Whole}
use Rattle.tokens.proofs.Readings.{err_ok, then_inv, ok_same}
use Rattle.reading.proofs.Stand.{rows_length}

-- counts that suit a word suit its making
abbrev pub Good : Rule → Type 0
Good r = (i o : ℕ) → suits r i o ≡ true → i ≡ cond (two r.making) (2 * o) o

abbrev AllGood : List gates.Entry → Type 0
AllGood [] = Unit {0}
AllGood (e ∷ es) = Good e.rule × AllGood es

none_some : (r : Rule) → None ≡ Some r → ⊥
none_some r e = let z : ◌≡◌ {A = ℕ} 0 1 = cc in omega arith

some_same : (q r : Rule) → Some q ≡ Some r → q ≡ r
some_same q r e = cc

found : (es : List gates.Entry) → AllGood es → (w : List ℕ) (r : Rule) → look_up es w ≡ Some r → Good r
found [] all w r e = absurd (none_some r e)
found (x ∷ es) all w r e =
    ⊎_elim
    (λ y. subst Good (some_same _ _ (sym (cond-true _ _ _ y) ∙ e)) all.0)
    (λ n. found es all.1 w r (sym (cond-false (bytes_eq x.word w) (Some x.rule) (look_up es w) n) ∙ e))
    (cases_Bool (bytes_eq x.word w))

all_good : AllGood gates.entries
all_good = (
  (λ i o h. grind (arith, nat_tests)),
  (
    (λ i o h. grind (arith, nat_tests)),
    (
      (λ i o h. grind (arith, nat_tests)),
      (
        (λ i o h. grind (arith, nat_tests)),
        (
          (λ i o h. grind (arith, nat_tests)),
          (
            (λ i o h. grind (arith, nat_tests)),
            tt,
          ),
        ),
      ),
    ),
  ),
)

pub rule_good : (w : List ℕ) (r : Rule) → rule_of w ≡ Some r → Good r
rule_good w r e = found gates.entries all_good w r e

known_good : (text : List ℕ) (at on : ℕ) (o : Option Rule) (p : Rule × ℕ) → ((r : Rule) → o ≡ Some r → Good r) → known text at o on ≡ Ok p → Good p.0
known_good text at on (Some r) p h e = subst Good (ap (λ q. q.0) (ok_same _ _ e)) (h r refl)
known_good text at on None p h e = absurd (err_ok _ _ e)

rule_in_good : (text : List ℕ) (t : Result Piece Fault) (p : Rule × ℕ) → rule_in text t ≡ Ok p → Good p.0
rule_in_good text (Ok (number n bs at)) p e = absurd (err_ok _ _ e)
rule_in_good text (Ok (word bs at)) p e = known_good text at (at + length bs) (rule_of bs) p (rule_good bs) e
rule_in_good text (Ok (end at)) p e = absurd (err_ok _ _ e)
rule_in_good text (Err f) p e = absurd (err_ok _ _ e)

-- what is known of a line that was read
pub record Facts (text : List ℕ) (at : ℕ) (g : GateLine) : Type 0 where
  pub n : Numeral
  pub m : Numeral
  pub on : ℕ
  pub one : number_at text at ≡ Ok (n, on)
  pub other : number_at text on ≡ Ok (m, g.wires)
  pub first : g.first ≡ n.at
  pub ins : numbers_at text g.inputs g.wires ≡ Ok (listed (numbers_at text g.inputs g.wires))
  pub outs : numbers_at text g.results (listed (numbers_at text g.inputs g.wires)).1 ≡ Ok (listed (numbers_at text g.results (listed (numbers_at text g.inputs g.wires)).1))
  pub good : Good g.rule

listed_ok : (r : Result (List Numeral × ℕ) Fault) (p : List Numeral × ℕ) → r ≡ Ok p → r ≡ Ok (listed r)
listed_ok r p e = e ∙ ap Ok (sym (ap listed e))

pub facts : (text : List ℕ) (at : ℕ) (p : GateLine × ℕ) → line_at text at ≡ Ok p → Facts text at p.0
facts text at p e =
    let a = then_inv (number_at text at) _ p e in
    let b = then_inv (number_at text a.0.1) _ p a.2 in
    let c = then_inv (pass_at text a.0.0.value b.0.1) _ p b.2 in
    let ci = then_inv (numbers_at text a.0.0.value b.0.1) _ c.0 c.1 in
    let d = then_inv (pass_at text b.0.0.value c.0.1) _ p c.2 in
    let di = then_inv (numbers_at text b.0.0.value c.0.1) _ d.0 d.1 in
    let r = then_inv (rule_at text d.0.1) _ p d.2 in
    let z = then_inv (end_at text r.0.1) _ p r.2 in
    let g : GateLine = record { first = a.0.0.at; inputs = a.0.0.value; results = b.0.0.value; wires = b.0.1; rule = r.0.0 } in
    let stops : (listed (numbers_at text a.0.0.value b.0.1)).1 ≡ c.0.1 = ap (λ x. (listed x).1) ci.1 ∙ ap (λ x. x.1) (ok_same _ _ ci.2) in
    let mine : Facts text at g =
    record {
      n = a.0.0;
      m = b.0.0;
      on = a.0.1;
      one = a.1;
      other = b.1;
      first = refl;
      ins = listed_ok _ ci.0 ci.1;
      outs = listed_ok _ di.0 (ap (numbers_at text b.0.0.value) stops ∙ di.1);
      good = rule_in_good text (token_at text d.0.1) r.0 r.1;
    } in
    subst (Facts text at) (ap (λ x. x.0) (ok_same _ _ z.2)) mine

-- the line that the code reads is the gate that is meant
abbrev pub gated : List ℕ → Result (GateLine × ℕ) Fault → Result (Parsed × ℕ) Fault
gated text (Ok p) = Ok (gate_of text p.0, p.1)
gated text (Err f) = Err f

module _ (text : List ℕ) where
  gated_then : {A : Type 0} (r : Result (A × ℕ) Fault) (L : A → ℕ → Result (GateLine × ℕ) Fault) (G : A → ℕ → Result (Parsed × ℕ) Fault) → ((a : A) (on : ℕ) → gated text (L a on) ≡ G a on) → gated text (then r L) ≡ then r G
  gated_then (Ok p) L G h = h p.0 p.1
  gated_then (Err f) L G h = refl

  gated_pass : (r : Result (List Numeral × ℕ) Fault) (L : Unit {0} → ℕ → Result (GateLine × ℕ) Fault) (G : List Numeral → ℕ → Result (Parsed × ℕ) Fault) → ((ns : List Numeral) (on : ℕ) → r ≡ Ok (ns, on) → gated text (L tt on) ≡ G ns on) → gated text (then (then r (λ _ last. Ok (tt, last))) L) ≡ then r G
  gated_pass (Ok p) L G h = h p.0 p.1 refl
  gated_pass (Err f) L G h = refl

  pub gate_line_is : (at : ℕ) → gated text (line_at text at) ≡ gate_at text at
  gate_line_is at =
      gated_then (number_at text at) _ _ (λ n a. gated_then (number_at text a) _ _ (λ m b.
      gated_pass (numbers_at text n.value b) _ _ (λ ins c e. gated_pass (numbers_at text m.value c) _ _ (λ outs d f.
      gated_then (rule_at text d) _ _ (λ r k. gated_then (end_at text k) _ _ (λ _ last.
      ap (λ p. Ok (record { first = n.at; inputs = p.0; results = (listed (numbers_at text m.value p.1)).0; rule = r }, last)) (ap listed e)
      ∙ ap (λ q. Ok (record { first = n.at; inputs = ins; results = (listed q).0; rule = r }, last)) f))))))

module _ (text : List ℕ) (count : ℕ) (es : List Entry) (at : ℕ) where
  abbrev go : Result (Parsed × ℕ) Fault → Result (List Entry × ℕ) Fault
  go r = then r (λ g on. after (gate text count es g) (λ es'. Ok (es', on)))

  pub gate_breaks : (f : Fault) → Err f ≡ line_at text at → Err f ≡ gate_in text count es at
  gate_breaks f e = ap (λ r. go (gated text r)) e ∙ ap go (gate_line_is text at)

  module _ (g : GateLine) (last : ℕ) (e : Ok (g, last) ≡ line_at text at) where
    known_line : Facts text at g
    known_line = facts text at (g, last) (sym e)

    gives : after (gate text count es (gate_of text g)) (λ es'. Ok (es', last)) ≡ gate_in text count es at
    gives = ap (λ r. go (gated text r)) e ∙ ap go (gate_line_is text at)

    lengths : suits g.rule (length (gate_of text g).inputs) (length (gate_of text g).results) ≡ suits g.rule g.inputs g.results
    lengths =
        let is : length (gate_of text g).inputs ≡ g.inputs = rows_length text g.inputs g.wires (listed (numbers_at text g.inputs g.wires)) known_line.ins in
        let os : length (gate_of text g).results ≡ g.results = rows_length text g.results (listed (numbers_at text g.inputs g.wires)).1 (listed (numbers_at text g.results (listed (numbers_at text g.inputs g.wires)).1)) known_line.outs in
        ap (λ i. suits g.rule i (length (gate_of text g).results)) is ∙ ap (suits g.rule g.inputs) os

    pub gate_refused : (n : Numeral) (on : ℕ) → Ok (n, on) ≡ number_at text at → suits g.rule g.inputs g.results ≡ false → Err (fault_at text refusal.CountsDoNotSuit n.at) ≡ gate_in text count es at
    gate_refused n on r f =
        let same : n ≡ known_line.n = ap (λ p. p.0) (ok_same _ _ (r ∙ known_line.one)) in
        ap (λ m. Err (fault_at text refusal.CountsDoNotSuit m.at)) same ∙ ap (λ b. Err (fault_at text refusal.CountsDoNotSuit b)) (sym known_line.first)
        ∙ sym (ap (λ x. after x (λ es'. Ok (es', last))) (cond-false _ _ _ (lengths ∙ f))) ∙ gives

    landed_after : (x : Result (List Entry) Fault) → landed x last ≡ after x (λ es'. Ok (es', last))
    landed_after (Ok es') = refl
    landed_after (Err f) = refl

    pub gate_made : suits g.rule g.inputs g.results ≡ true → (x : Result (List Entry) Fault) → x ≡ line_makes text count es (gate_of text g) → landed x last ≡ gate_in text count es at
    gate_made y x h = landed_after x ∙ ap (λ z. after z (λ es'. Ok (es', last))) (h ∙ sym (cond-true _ _ _ (lengths ∙ y))) ∙ gives

    pub gate_whole : suits g.rule g.inputs g.results ≡ true → Whole text g
    gate_whole y = record { ins = known_line.ins; outs = known_line.outs; counts = known_line.good g.inputs g.results y }

    pub wires_here : (n m : Numeral) (a b : ℕ) → Ok (n, a) ≡ number_at text at → Ok (m, b) ≡ number_at text a → b ≡ g.wires
    wires_here n m a b one two =
        let same : a ≡ known_line.on = ap (λ p. p.1) (ok_same _ _ (one ∙ known_line.one)) in
        ap (λ p. p.1) (ok_same _ _ (two ∙ ap (number_at text) same ∙ known_line.other))
