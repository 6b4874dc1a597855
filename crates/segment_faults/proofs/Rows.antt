-- Tables in parts.
use Rattle.std.proofs.Common.{◌≡◌, ℕ, Bool, true, false, List, [], ◌∷◌, ◌++◌, drop, Option, Some, None, refl, sym, ◌∙◌}
use Rattle.std.specs.Option.{option_or}
use Rattle.dart_tokens.specs.declared.grouped_token.GroupedToken.{GroupedToken as Token}
use Rattle.segment_faults.specs.Table.{Row, row_at, fault_at, words, asynchronous, lexemes, forms}
use Rattle.segment_faults.specs.declared.fault.SegmentFault.{SegmentFault}

-- the first row of two tables is the first of the one, or else of the other
pub rows_append : (rows others : List Row) (text : List Token) (first place : ℕ) → row_at (rows ++ others) text first place ≡ option_or (row_at rows text first place) (row_at others text first place)
rows_append [] others text first place = refl
rows_append ((sign, fault) ∷ rows) others text first place = by (sign text first place) refl (rows_append rows others text first place)
  where
    by : (b : Bool) → sign text first place ≡ b → row_at (rows ++ others) text first place ≡ option_or (row_at rows text first place) (row_at others text first place) →
        row_at ((sign, fault) ∷ rows ++ others) text first place ≡ option_or (row_at ((sign, fault) ∷ rows) text first place) (row_at others text first place)
    by true u rest = rw u refl
    by false u rest = rw u rest

-- the table is words, then those of asynchronous code, then other lexemes, then forms: the first that tells decides
pub told_by_word : (text ahead : List Token) (first place : ℕ) (fault : SegmentFault) → ahead ≡ drop place text → row_at words ahead 0 0 ≡ Some fault → Some fault ≡ fault_at text first place
told_by_word text ahead first place fault e h =
    let w : row_at words text first place ≡ Some fault = rw e at h in sym (rows_append words (asynchronous ++ lexemes ++ forms) text first place ∙ rw w refl)

-- where no word does
no_word : (text ahead : List Token) (first place : ℕ) → ahead ≡ drop place text → row_at words ahead 0 0 ≡ None →
    fault_at text first place ≡ row_at (asynchronous ++ lexemes ++ forms) text first place
no_word text ahead first place e h =
    let w : row_at words text first place ≡ None = rw e at h in rows_append words (asynchronous ++ lexemes ++ forms) text first place ∙ rw w refl

pub told_by_asynchronous : (text ahead : List Token) (first place : ℕ) (fault : SegmentFault) → ahead ≡ drop place text → row_at words ahead 0 0 ≡ None →
    row_at asynchronous ahead 0 0 ≡ Some fault → Some fault ≡ fault_at text first place
told_by_asynchronous text ahead first place fault e w h =
    let a : row_at asynchronous text first place ≡ Some fault = rw e at h in
    sym (no_word text ahead first place e w ∙ rows_append asynchronous (lexemes ++ forms) text first place ∙ rw a refl)

-- nor one of asynchronous code
no_asynchronous : (text ahead : List Token) (first place : ℕ) → ahead ≡ drop place text → row_at words ahead 0 0 ≡ None → row_at asynchronous ahead 0 0 ≡ None →
    fault_at text first place ≡ row_at (lexemes ++ forms) text first place
no_asynchronous text ahead first place e w h =
    let a : row_at asynchronous text first place ≡ None = rw e at h in
    no_word text ahead first place e w ∙ rows_append asynchronous (lexemes ++ forms) text first place ∙ rw a refl

pub told_by_lexeme : (text ahead : List Token) (first place : ℕ) (fault : SegmentFault) → ahead ≡ drop place text → row_at words ahead 0 0 ≡ None →
    row_at asynchronous ahead 0 0 ≡ None → row_at lexemes text 0 place ≡ Some fault → Some fault ≡ fault_at text first place
told_by_lexeme text ahead first place fault e w a l = sym (no_asynchronous text ahead first place e w a ∙ rows_append lexemes forms text first place ∙ rw l refl)

pub told_by_form : (text ahead : List Token) (first place : ℕ) (answer : Option SegmentFault) → ahead ≡ drop place text → row_at words ahead 0 0 ≡ None →
    row_at asynchronous ahead 0 0 ≡ None → row_at lexemes text 0 place ≡ None → answer ≡ row_at forms text first place → answer ≡ fault_at text first place
told_by_form text ahead first place answer e w a l f = f ∙ sym (no_asynchronous text ahead first place e w a ∙ rows_append lexemes forms text first place ∙ rw l refl)
