-- Types where they stand.
use Rattle.std.proofs.Common.{◌≡◌, ℕ, suc, List, Result, refl, sym, subst}
use Rattle.readings.specs.Readings.{Reading}
use Rattle.dart_tree.specs.Tree.{Tree}
use Rattle.dart_tokens.specs.declared.grouped_token.GroupedToken.{GroupedToken as Token}
use Rattle.grammar.specs.declared.level.Setting.{Setting}
use Rattle.grammar.specs.Descents.{Lower, lower, take_type, take_plain_type}
use Rattle.parse_leaves.specs.declared.miss.Miss.{Miss}
use Rattle.parse_leaves.specs.declared.type_leaves.TypePlace.{TypePlace}
use Rattle.parse_leaves.specs.declared.type_leaves.TypePlace.TheVariants as place
use Rattle.parse_leaves.specs.Answers.{Gives}
use Rattle.parse_leaves.specs.Places.{question_of, ends_of}
use Rattle.parse_expr.specs.declared.part.Part.{Part}
use Rattle.parse_expr.specs.declared.part.Part.TheVariants as part
use Rattle.parse_expr.specs.Parts.{type_at, reads}

here : (n : ℕ) (stands : TypePlace) (ts : List Token) → take_type n (lower n) (question_of stands) (ends_of stands) ts ≡ type_at (lower (suc n)) stands ts
unfolding lower
here n place.Anywhere ts = refl
here n (place.Tested m) ts = refl
here n place.Named ts = refl

pub gives_type : {X : Type 0} (view : X → Reading Token Tree) (r : Result X Miss) (n : ℕ) (stands : TypePlace) (ts : List Token) →
    Gives view r (take_type n (lower n) (question_of stands) (ends_of stands) ts) → Gives view r (type_at (lower (suc n)) stands ts)
gives_type view r n stands ts g = subst (λ o. Gives view r o) (here n stands ts) g

plain : (n : ℕ) (ts : List Token) → take_plain_type (lower n) (question_of place.Anywhere) ts ≡ (lower (suc n)).constructed ts
unfolding lower
plain n ts = refl

pub gives_constructed : {X : Type 0} (view : X → Reading Token Tree) (r : Result X Miss) (n : ℕ) (ts : List Token) →
    Gives view r (take_plain_type (lower n) (question_of place.Anywhere) ts) → Gives view r ((lower (suc n)).constructed ts)
gives_constructed view r n ts g = subst (λ o. Gives view r o) (plain n ts) g

tested : (n : ℕ) (m : Setting) (ts : List Token) → take_type n (lower n) (question_of (place.Tested m)) (ends_of (place.Tested m)) ts ≡ (lower (suc n)).tested m ts
unfolding lower
tested n m ts = refl

pub gives_tested : {X : Type 0} (view : X → Reading Token Tree) (r : Result X Miss) (n : ℕ) (m : Setting) (ts : List Token) →
    Gives view r (take_type n (lower n) (question_of (place.Tested m)) (ends_of (place.Tested m)) ts) → Gives view r ((lower (suc n)).tested m ts)
gives_tested view r n m ts g = subst (λ o. Gives view r o) (tested n m ts) g

-- the part that is such a type
pub reads_tested : {X : Type 0} (view : X → Reading Token Tree) (r : Result X Miss) (l : Lower) (p : Part) (m : Setting) (ts : List Token) → p ≡ part.Tested m → Gives view r (l.tested m ts) → Gives view r (reads l p ts)
reads_tested view r l p m ts e g = subst (λ q. Gives view r (reads l q ts)) (sym e) g
