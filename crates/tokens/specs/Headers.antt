-- The first three lines.
use Rattle.std.specs.Prelude.{ℕ, zero, suc, ◌+◌, Bool, cond, ◌&&◌, ◌||◌, List, drop, Ok, Err, Result, ◌==◌, nat_le}
use Rattle.std.specs.List.{prefix_len}
use Rattle.circuits.specs.declared.answer.Refusal.TheVariants as refusal
use Rattle.tokens.specs.declared.fault.Fault.{Fault}
use Rattle.tokens.specs.declared.header.Header.{Header}
use Rattle.tokens.specs.Places.{blank, line_of}
use Rattle.tokens.specs.Faults.{fault_at}
use Rattle.tokens.specs.Lines.{then, number_at, end_at}

-- a separator, or the end of a line
abbrev pub gap : ℕ → Bool
gap b = blank b || b == 10

-- the first byte of the next line that has a token, or the text's end
abbrev pub line_start : List ℕ → ℕ → ℕ
line_start text at = at + prefix_len gap (drop at text)

-- k widths, each at least 1, whose sum stays within the wires
abbrev pub widths_at : List ℕ → ℕ → ℕ → ℕ → ℕ → Result (ℕ × ℕ) Fault
widths_at text wires zero sum at = Ok (sum, at)
widths_at text wires (suc k) sum at =
    then (number_at text at) (λ w on. cond (nat_le 1 w.value && nat_le (sum + w.value) wires) (widths_at text wires k (sum + w.value) on) (Err (fault_at text refusal.BadWidth w.at)))

-- a line of widths: their count, at most 64, and the widths
abbrev pub sum_at : List ℕ → ℕ → ℕ → Result (ℕ × ℕ) Fault
sum_at text wires at =
    then (number_at text (line_start text at)) (λ k on. cond (nat_le k.value 64)
    (then (widths_at text wires k.value 0 on) (λ sum end. then (end_at text end) (λ _ last. Ok (sum, last))))
    (Err (fault_at text refusal.CountOutOfBounds k.at)))

-- the gate lines and the wires, from 1 to 1,048,576, and the two lines of widths
abbrev pub header_at : List ℕ → ℕ → Result (Header × ℕ) Fault
header_at text at =
    then (number_at text (line_start text at)) (λ g a. then (number_at text a) (λ w b.
    cond (nat_le 1 w.value && nat_le w.value 1048576)
    (then (end_at text b) (λ _ c. then (sum_at text w.value c) (λ i d. then (sum_at text w.value d) (λ o last.
    Ok (record { gates = g.value; wires = w.value; wires_at = w.at; wires_line = line_of text w.at; inputs = i; outputs = o }, last)))))
    (Err (fault_at text refusal.CountOutOfBounds w.at))))
