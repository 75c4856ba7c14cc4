use Rattle.std.proofs.Common.{◌≡◌, ◌^◌, ◌<◌, drop}
use Rattle.trace.specs.Numerals.{all_digits, value_after, value}
use Rattle.trace.proofs.fields.read_digits.Given as goal

abbrev pub invariant-loop-b : goal.invariant-loop-b
invariant-loop-b l =
    (l.value < 10 ^ l.b-index) × (all_digits (drop l.b-index l.text) ≡ all_digits l.text) ×
    (value_after l.value (drop l.b-index l.text) ≡ value l.text)
