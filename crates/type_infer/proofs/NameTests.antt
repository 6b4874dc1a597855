-- Names and numbers of parameters, as the code goes through them.
use Rattle.std.proofs.Common.{◌≡◌, ℕ, ◌+◌, ◌<◌, ◌≤◌, ◌++◌, Bool, true, false, List, [], ◌∷◌, length, drop, get_or, refl, sym, ◌∙◌, ap, drop-cons, add-one, arith, nat_le}
use Rattle.std.specs.Prelude.{◌&&◌}
use Rattle.std.proofs.lemmas.Bool.Decides.{nat_tests}
use Rattle.dart_types.specs.Ty.{Ty, more, count, join, types_of}
use Rattle.dart_types.specs.Named.{named_of, has_name}
use Rattle.dart_types.specs.Sub.{required_in}
use Rattle.dart_types.specs.declared.types.NamedType.{NamedType}
use Rattle.type_infer.specs.Pairs.{names_are_in, takes_calls_of}
use Rattle.type_infer.proofs.General.{count-types_of}

-- a test that a part of the list fails, or leaves to the rest
fails_here : (here test rest : Bool) {whole : Bool} → here ≡ (test && rest) → test ≡ false → here ≡ whole → false ≡ whole
fails_here here test rest e f w = sym (ap (λ (b : Bool). b && rest) f) ∙ sym e ∙ w

rest_decides : (here test rest : Bool) {whole : Bool} → here ≡ (test && rest) → test ≡ true → here ≡ whole → rest ≡ whole
rest_decides here test rest e f w = sym (ap (λ (b : Bool). b && rest) f) ∙ sym e ∙ w

module _ (ns ms : List NamedType) (i : ℕ) (n : NamedType) (lt : i < length ns) (is : n ≡ get_or ns i n) where
  from_here : drop i ns ≡ n ∷ drop (i + 1) ns
  from_here = rw add-one (drop-cons ns i n lt) ∙ ap (λ (m : NamedType). m ∷ drop (i + 1) ns) (sym is)

  -- whether the names from a place on are in another list
  abbrev In : List NamedType → Bool
  In xs = names_are_in (named_of xs) (named_of ms)

  name_step : In (drop i ns) ≡ (has_name (named_of ms) n.name && In (drop (i + 1) ns))
  name_step = ap In from_here

  pub name_missing : (b : Bool) → b ≡ has_name (named_of ms) n.name → b ≡ false → In (drop i ns) ≡ In ns → false ≡ In ns
  name_missing b k f = fails_here (In (drop i ns)) (has_name (named_of ms) n.name) (In (drop (i + 1) ns)) name_step (sym k ∙ f)

  pub name_found : (b : Bool) → b ≡ has_name (named_of ms) n.name → b ≡ true → In (drop i ns) ≡ In ns → In (drop (i + 1) ns) ≡ In ns
  name_found b k f = rest_decides (In (drop i ns)) (has_name (named_of ms) n.name) (In (drop (i + 1) ns)) name_step (sym k ∙ f)

-- the numbers of positional parameters
pub join-types_of : (ts us : List Ty) → join (types_of ts) (types_of us) ≡ types_of (ts ++ us)
join-types_of [] us = refl
join-types_of (t ∷ ts) us = ap (more t) (join-types_of ts us)

count-join : (ts us : List Ty) → count (join (types_of ts) (types_of us)) ≡ length (ts ++ us)
count-join ts us = ap count (join-types_of ts us) ∙ count-types_of (ts ++ us)

le_true : (m n : ℕ) → m ≤ n → nat_le m n ≡ true
le_true m n h = grind (arith, nat_tests)

le_false : (m n : ℕ) → n < m → nat_le m n ≡ false
le_false m n h = grind (arith, nat_tests)

module _ (r o r' o' : List Ty) (n n' : List NamedType) where
  abbrev Takes : Bool
  Takes = takes_calls_of (types_of r) (types_of o) (named_of n) (types_of r') (types_of o') (named_of n')

  pub more_required : length r' < length r → false ≡ Takes
  more_required h = rw (le_false (count (types_of r)) (count (types_of r')) (omega (arith, count-types_of r, count-types_of r', h))) refl

  both_false : (a : Bool) (b : Bool) → b ≡ false → false ≡ (a && b)
  both_false true b e = sym e
  both_false false b e = refl

  pub takes_fewer : length (r ++ o) < length (r' ++ o') → false ≡ Takes
  takes_fewer h =
      both_false (nat_le (count (types_of r)) (count (types_of r'))) (nat_le (count (join (types_of r') (types_of o'))) (count (join (types_of r) (types_of o))) && (names_are_in (named_of n') (named_of n) && required_in (named_of n) (named_of n')))
      (rw (le_false (count (join (types_of r') (types_of o'))) (count (join (types_of r) (types_of o))) (omega (arith, count-join r o, count-join r' o', h))) refl)

  names_decide : length r ≤ length r' → length (r' ++ o') ≤ length (r ++ o) → Takes ≡ (names_are_in (named_of n') (named_of n) && required_in (named_of n) (named_of n'))
  names_decide h k =
      rw (le_true (count (types_of r)) (count (types_of r')) (omega (arith, count-types_of r, count-types_of r', h)), le_true (count (join (types_of r') (types_of o'))) (count (join (types_of r) (types_of o))) (omega (arith, count-join r o, count-join r' o', k))) refl

  pub both_decide : (a b : Bool) → length r ≤ length r' → length (r' ++ o') ≤ length (r ++ o) → a ≡ names_are_in (named_of n') (named_of n) → a ≡ true → b ≡ required_in (named_of n) (named_of n') → b ≡ Takes
  both_decide a b h k e f g = g ∙ ap (λ (x : Bool). x && required_in (named_of n) (named_of n')) (sym f ∙ e) ∙ sym (names_decide h k)
