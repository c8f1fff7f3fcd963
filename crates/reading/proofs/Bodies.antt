-- Parsed lines one after another.
use Rattle.std.proofs.Common.{◌≡◌, ℕ, suc, ◌+◌, ◌-◌, ◌<◌, List, length, take, IfOk, Ok, Err, Result, sym, refl, ap, ◌∙◌, arith}
use Rattle.std.proofs.lemmas.List.{take_all}
use Rattle.circuits.specs.declared.making.Entry.{Entry}
use Rattle.tokens.specs.declared.fault.Fault.{Fault}
use Rattle.tokens.specs.declared.header.Header.{Header}
use Rattle.tokens.specs.Headers.{line_start}
use Rattle.tokens.specs.Tokens.{token_at}
use Rattle.tokens.specs.Lines.{then}
use Rattle.reading.specs.Texts.{next_gate, gates_at, close, body_at, inputs, ranks_of}
use Rattle.reading.specs.Holds.{Keeps, bodied}
use Rattle.reading.proofs.Inputs.{ranks_all}

module _ (text : List ℕ) (wires k i at : ℕ) (es : List Entry) (total : Result (List Entry × ℕ) Fault) (inv : gates_at text wires (k - i) es at ≡ total) (lt : i < k) where
  step : then (next_gate text wires es at) (λ es' on. gates_at text wires (k - (i + 1)) es' on) ≡ total
  step = let e : k - i ≡ suc (k - (i + 1)) = omega arith in ap (λ m. gates_at text wires m es at) (sym e) ∙ inv

  pub gates_stop : (f : Fault) → Err f ≡ next_gate text wires es at → Err f ≡ total
  gates_stop f e = ap (λ r. then r (λ es' on. gates_at text wires (k - (i + 1)) es' on)) e ∙ step

  pub gates_go : (es' : List Entry) (on : ℕ) → Ok (es', on) ≡ next_gate text wires es at → gates_at text wires (k - (i + 1)) es' on ≡ total
  gates_go es' on e = ap (λ r. then r (λ es' on. gates_at text wires (k - (i + 1)) es' on)) e ∙ step

module _ (text : List ℕ) (h : Header) (at : ℕ) where
  abbrev ending : Result (List Entry × ℕ) Fault → Result (List Entry) Fault
  ending r = then r (λ es on. close text h.wires es (token_at text (line_start text on)))

  module _ (rows : ℕ) (size : rows ≡ h.wires) (front : List Entry) (first : front ≡ inputs h.inputs) where
    lines_are : gates_at text rows h.gates front at ≡ gates_at text h.wires h.gates (inputs h.inputs) at
    lines_are = ap (λ w. gates_at text w h.gates front at) size ∙ ap (λ es. gates_at text h.wires h.gates es at) first

    pub body_stops : (f : Fault) → Err f ≡ gates_at text rows h.gates front at → Err f ≡ body_at text h at
    body_stops f e = ap ending (e ∙ lines_are)

    module _ (k on : ℕ) (table : List Entry) (e : Ok (take k table, on) ≡ gates_at text rows h.gates front at) where
      same_end : (r : Result (Unit {0}) Fault) → IfOk r (λ _. k ≡ length table) → bodied r table ≡ bodied r (take k table)
      same_end (Ok t) all = ap Ok (sym (take_all k table (omega (arith, all))))
      same_end (Err f) all = refl

      pub body_ends : (r : Result (Unit {0}) Fault) → IfOk r (λ _. k ≡ length table) → bodied r (take k table) ≡ close text h.wires (take k table) (token_at text (line_start text on)) → bodied r table ≡ body_at text h at
      body_ends r all c = same_end r all ∙ c ∙ ap ending (e ∙ lines_are)

pub ranks_end : (wires k : ℕ) (table : List Entry) (ranks : List ℕ) → length table ≡ wires → Keeps k table ranks → (r : Result (Unit {0}) Fault) → IfOk r (λ _. k ≡ length table) → IfOk r (λ _. ranks ≡ ranks_of table wires)
ranks_end wires k table ranks size keeps (Ok t) all = ranks_all k table ranks keeps all ∙ ap (ranks_of table) size
ranks_end wires k table ranks size keeps (Err f) all = tt
