-- An `if`, whose `else` is read where it goes to no `if` in the branch before it.
use Rattle.std.proofs.Common.{◌≡◌, Bool, true, false, not, if◌then◌else◌, List, [], ◌∷◌, Option, Some, None, option_map, refl, ap}
use Rattle.readings.specs.Readings.{Reading, tokens_read, made}
use Rattle.readings.specs.Descent.{Descent, bind, or_else, take_given, take_token, take_turn, take_maybe, take_where, ◌▸◌}
use Rattle.dart_tokens.specs.declared.token.Kind.TheVariants as kind
use Rattle.dart_tree.specs.Tree.{Tree, part_of, if_statement}
use Rattle.dart_tokens.specs.declared.grouped_token.GroupedToken.{GroupedToken as Token}
use Rattle.grammar.specs.Tokens.{is, heads, place_over}
use Rattle.grammar.specs.Statements.{ends_open, with_else}
use Rattle.grammar.specs.Descents.{Lower, take_condition, take_if}

-- the other branch behind what is read
other_behind : (b : Bool) (o : Option (Reading Token (Token × Tree))) (start ws rest : List Token) (x : Token × (Tree × Tree)) (found : Option Tree) →
    (if b then Some (None, ws) else or_else (bind (bind o (λ y. Some (made (λ read a. a.1) ws y))) (λ y. Some (made (λ read a. Some a) ws y))) (Some (None, ws))) ≡ Some (found, rest) →
    (if not b then or_else (bind o (λ y. Some (with_else (tokens_read start y.1) (x, None) y.0, y.1))) (Some ((x, None), ws)) else Some ((x, None), ws)) ≡ Some ((x, found), rest)
other_behind true o start ws rest x found e = ap (option_map (λ (r : Reading Token (Option Tree)). ((x, r.0), r.1))) e
other_behind false None start ws rest x found e = ap (option_map (λ (r : Reading Token (Option Tree)). ((x, r.0), r.1))) e
other_behind false (Some ((word, branch), us)) start ws rest x found e = ap (option_map (λ (r : Reading Token (Option Tree)). ((x, r.0), r.1))) e

-- the whole `if`
pub nearest_read : (l : Lower) (ts us vs ws rest : List Token) (word : Token) (condition branch : Tree) (found : Option Tree) → take_token (is kind.If) ts ≡ Some (word, us) → take_condition l us ≡ Some (condition, vs) → l.statement vs ≡ Some (branch, ws) →
    take_where (λ vs. ends_open branch) (take_given None) (take_maybe (take_turn (λ x. x.1) (take_token (is kind.Else) ▸ l.statement))) ws ≡ Some (found, rest) →
    take_if l ts ≡ Some (if_statement (place_over (tokens_read ts rest)) condition branch (part_of found), rest)
unfolding take_if
nearest_read l ts us vs ws rest word condition branch found e d c o =
    rw (e, d, c, other_behind (ends_open branch) ((take_token (is kind.Else) ▸ l.statement) ws) ts ws rest (word, (condition, branch)) found o) refl

-- where no `else` comes next there is no other branch, whatever the branch before ends with
pub no_else : (b : Bool) (l : Lower) (ts : List Token) → heads kind.Else ts ≡ false → take_where (λ us. b) (take_given None) (take_maybe (take_turn (λ x. x.1) (take_token (is kind.Else) ▸ l.statement))) ts ≡ Some (None, ts)
no_else true l ts e = refl
no_else false l [] e = refl
no_else false l (t ∷ ts) e = rw e refl
