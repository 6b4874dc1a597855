use Rattle.std.proofs.Common.{◌≡◌, ◌∙◌, ℕ, ◌<◌, ◌≤◌, true, not, ◌&&◌, ◌==◌, nat_le, List, length, Ok, Result, refl, sym, arith, rules}
use Rattle.std.specs.Char.{is_ascii_digit}
use Rattle.std.specs.List.{list_all}
use Rattle.std.specs.Result.{result_ok}
use Rattle.std.specs.Str.Parse.{ParsesUnsigned, digits_value}
use Rattle.std.proofs.lemmas.Bool.{and_parts}
use Rattle.std.proofs.lemmas.Bool.Decides.{nat_tests}
use Rattle.std.proofs.lemmas.Str.Parse.{IsNumeralModel, numerals_by_value, parse_gives, digits_value_short}
use Rattle.command_words.specs.Words.{is_number, number_of}
use Rattle.command_words.proofs.words.number_of.Goals as goal

-- the digits and their value, as the kit has them
own : IsNumeralModel (λ ds. list_all is_ascii_digit ds ≡ true) (digits_value 10)
own = numerals_by_value _ (search rules)

-- what a number of steps is
parts : (word : List ℕ) → is_number word ≡ true → (0 < length word) × (length word ≤ 15) × (list_all is_ascii_digit word ≡ true)
parts word is =
    let both = and_parts (not (length word == 0) && nat_le (length word) 15) (list_all is_ascii_digit word) is in
    let size = and_parts (not (length word == 0)) (nat_le (length word) 15) both.0 in
    let some = size.0 in
    let few = size.1 in
    (grind (arith, nat_tests, some), grind (arith, nat_tests, few), both.1)

-- such a word is read as its number
number : {E : Type 0} (word : List ℕ) (r : Result ℕ E) → ParsesUnsigned 64 10 word r → is_number word ≡ true → result_ok r ≡ number_of word
number word r parses is =
    let p = parts word is in
    let read : r ≡ Ok (digits_value 10 word) = parse_gives own 64 word r parses p.2 p.0 (omega (arith, digits_value_short own word 15 p.2 p.1)) in
    rw (read, is) refl

pub returns-then-is_number : goal.returns-then-is_number
returns-then-is_number c = c.ok.ensures.value ∙ number c.args.word.now c.parse.result c.parse.ensures.value.0 (sym c.is_number.ensures ∙ c.if-is_number.true)
