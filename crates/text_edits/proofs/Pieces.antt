-- Texts with the same pieces but for those in a body have the same lexemes but for those in it.
use Rattle.std.proofs.Common.{◌≡◌, ℕ, suc, ◌+◌, ◌≤◌, ◌<◌, ◌⊎◌, Bool, true, false, not, ◌&&◌, ◌||◌, List, [], ◌∷◌, ◌++◌, length, get_or, bytes_eq, if◌then◌else◌, refl, sym, ap, ◌∙◌, subst, arith, inl, inr, length-append}
use Rattle.std.specs.List.{list_any, position_or_len}
use Rattle.std.proofs.lemmas.Bool.{cases_lt}
use Rattle.std.proofs.lemmas.List.{get_or_append_left, get_or_push}
use Rattle.std.proofs.lemmas.List.Folds.{list_any_at}
use Rattle.std.proofs.lemmas.List.Sums.{passes_at_first, prefix_len-le-length}
use denote.Enum.Bare.{sameb}
use Rattle.plain_text.specs.Units.{units_in}
use Rattle.dart_tokens.specs.contracts.token.Kind as kinds
use Rattle.dart_tokens.specs.declared.token.Kind.{Kind}
use Rattle.dart_tokens.specs.declared.token.Kind.TheVariants as kind
use Rattle.dart_tokens.specs.declared.token.Token.{Token}
use Rattle.dart_tokens.specs.Groups.{Bracket, Curly}
use Rattle.dart_scan.specs.declared.piece.Class.{Class}
use Rattle.dart_scan.specs.Pieces.{Spelled}
use Rattle.dart_scan.specs.Scanned.{is_gap, kind_of, Lexeme, lexemes_from, with_word, words_behind, token_of, tokens_behind, words_of}
use Rattle.interface_part.specs.declared.hidden.Hidden.{Hidden}
use Rattle.interface_part.specs.Interface.{is, is_seen, letters_of}
use Rattle.body_laws.specs.Bodies.{Freedom, is_free}
use Rattle.edit_laws.specs.Edits.{SameLexeme, SameLexemes}
use Rattle.text_edits.specs.Brackets.{kinds_after, falls_below, closes_parameters, freedom_within, may_stand, all_may_stand, ends_group, is_body, may_differ, leads_to_body}
use Rattle.text_edits.specs.EditedBraces.{EditedBraces}
use Rattle.text_edits.specs.EditedPieces.{left_brace, right_brace, units_over, tokens_in, EditedPieces}
use Rattle.text_edits.proofs.Words.{placed, found_before, equal_words}

-- Words that stay where they are as more are found.

record Extends (words more : List (List ℕ)) : Type 0 where
  size : length words ≤ length more
  same : (i : ℕ) → i < length words → get_or more i [] ≡ get_or words i []

extends_itself : (words : List (List ℕ)) → Extends words words
extends_itself words = record { size = omega arith; same = λ i h. refl }

extends_on : (words more all : List (List ℕ)) → Extends words more → Extends more all → Extends words all
extends_on words more all a b = record { size = omega (arith, a.size, b.size); same = λ i h. b.same i (omega (arith, h, a.size)) ∙ a.same i h }

extends_with : (words : List (List ℕ)) (word : List ℕ) → Extends words (with_word words word)
extends_with words word = by (list_any (bytes_eq word) words)
  where
    by : (b : Bool) → Extends words (if b then words else words ++ word ∷ [])
    by true = extends_itself words
    by false = record { size = omega (arith, length-append words (word ∷ [])); same = λ i h. get_or_append_left words (word ∷ []) [] i h }

extends_behind : (words : List (List ℕ)) (ls : List Lexeme) → Extends words (words_behind words ls)
unfolding words_behind
extends_behind words [] = extends_itself words
extends_behind words (l ∷ ls) = extends_on words (with_word words l.bytes) (words_behind (with_word words l.bytes) ls) (extends_with words l.bytes) (extends_behind (with_word words l.bytes) ls)

-- the letters of a token are the bytes of its lexeme
letters_in : (words all : List (List ℕ)) (l : Lexeme) → Extends (with_word words l.bytes) all → letters_of all (token_of words l) ≡ l.bytes
letters_in words all l e = by (list_any (bytes_eq l.bytes) words) refl
  where
    place : ℕ
    place = position_or_len (bytes_eq l.bytes) words

    is_there : place < length words → get_or words place [] ≡ l.bytes
    is_there h = sym (equal_words l.bytes (get_or words place []) (passes_at_first (bytes_eq l.bytes) words [] h))

    by : (b : Bool) → list_any (bytes_eq l.bytes) words ≡ b → get_or all place [] ≡ l.bytes
    by true f =
        let p = placed words l.bytes f in
        let h : place < length words = omega (arith, p.within, found_before words l.bytes p.place p.is_it) in
        let known : with_word words l.bytes ≡ words = rw f refl in
        let more : Extends words all = subst (λ (ws : List (List ℕ)). Extends ws all) known e in more.same place h ∙ is_there h
    by false f =
        let most : place ≤ length words = prefix_len-le-length (λ x. not (bytes_eq l.bytes x)) words in
        let known : with_word words l.bytes ≡ words ++ l.bytes ∷ [] = rw f refl in
        let more : Extends (words ++ l.bytes ∷ []) all = subst (λ (ws : List (List ℕ)). Extends ws all) known e in
        let last : length words ≡ place = end (cases_lt place (length words)) most in more.same place (omega (arith, last, length-append words (l.bytes ∷ []))) ∙ get_or_push words l.bytes [] place last
      where
        end : (place < length words) ⊎ (length words ≤ place) → place ≤ length words → length words ≡ place
        end (inl h) most =
            let passes : list_any (bytes_eq l.bytes) words ≡ true = list_any_at (bytes_eq l.bytes) words place [] h (passes_at_first (bytes_eq l.bytes) words [] h) in
            absurd (clash (list_any (bytes_eq l.bytes) words) passes f)
          where
            clash : (b : Bool) → b ≡ true → b ≡ false → ⊥
            clash true e d = cc
            clash false e d = cc
        end (inr h) most = omega (arith, h, most)

-- The same lexemes, so much further on or back.

abbrev Shifted : (on back : ℕ) → List Lexeme → List Lexeme → Type 0
Shifted on back [] [] = Unit {0}
Shifted on back [] (k ∷ ks) = ⊥
Shifted on back (l ∷ ls) [] = ⊥
Shifted on back (l ∷ ls) (k ∷ ks) = ((l.class ≡ k.class) × ((l.bytes ≡ k.bytes) × (l.start + on ≡ k.start + back))) × Shifted on back ls ks

shifted_from : (on back n p : ℕ) (ps : List Spelled) → n + on ≡ p + back → Shifted on back (lexemes_from n ps) (lexemes_from p ps)
unfolding lexemes_from
shifted_from on back n p [] e = tt
shifted_from on back n p (piece ∷ ps) e = by (is_gap piece.0) (shifted_from on back (n + units_in piece.1) (p + units_in piece.1) ps (omega (arith, e)))
  where
    by : (b : Bool) → Shifted on back (lexemes_from (n + units_in piece.1) ps) (lexemes_from (p + units_in piece.1) ps) →
        Shifted on back (if b then lexemes_from (n + units_in piece.1) ps else record { class = piece.0; start = n; bytes = piece.1 } ∷ lexemes_from (n + units_in piece.1) ps)
        (if b then lexemes_from (p + units_in piece.1) ps else record { class = piece.0; start = p; bytes = piece.1 } ∷ lexemes_from (p + units_in piece.1) ps)
    by true r = r
    by false r = ((refl, (refl, e)), r)

same_lexeme : (on back : ℕ) (words others all everything : List (List ℕ)) (l k : Lexeme) → l.class ≡ k.class → l.bytes ≡ k.bytes → l.start + on ≡ k.start + back → Extends (with_word words l.bytes) all → Extends (with_word others k.bytes) everything →
    SameLexeme all everything on back (token_of words l) (token_of others k)
same_lexeme on back words others all everything l k c b s e d =
    let units : units_in l.bytes ≡ units_in k.bytes = ap units_in b in
    record {
      kind = ap (λ (x : Class). kind_of x l.bytes) c ∙ ap (λ (x : List ℕ). kind_of k.class x) b;
      letters = letters_in words all l e ∙ b ∙ sym (letters_in others everything k d);
      start = s;
      end = omega (arith, s, units);
    }

same_lexemes : (on back : ℕ) (words others all everything : List (List ℕ)) (ls ks : List Lexeme) → Shifted on back ls ks → Extends (words_behind words ls) all → Extends (words_behind others ks) everything →
    SameLexemes all everything on back (tokens_behind words ls) (tokens_behind others ks)
unfolding words_behind tokens_behind
same_lexemes on back words others all everything [] [] s e d = tt
same_lexemes on back words others all everything [] (k ∷ ks) s e d = absurd s
same_lexemes on back words others all everything (l ∷ ls) [] s e d = absurd s
same_lexemes on back words others all everything (l ∷ ls) (k ∷ ks) s e d = (
  same_lexeme on back words others all everything l k s.0.0 s.0.1.0 s.0.1.1 (extends_on (with_word words l.bytes) (words_behind (with_word words l.bytes) ls) all (extends_behind (with_word words l.bytes) ls) e)
      (extends_on (with_word others k.bytes) (words_behind (with_word others k.bytes) ks) everything (extends_behind (with_word others k.bytes) ks) d),
  same_lexemes on back (with_word words l.bytes) (with_word others k.bytes) all everything ls ks s.1 e d,
)

-- Parts of a text.

lexemes_parted : (n : ℕ) (ps qs : List Spelled) → lexemes_from n (ps ++ qs) ≡ lexemes_from n ps ++ lexemes_from (n + units_over ps) qs
unfolding lexemes_from
lexemes_parted n [] qs = let e : n ≡ n + 0 = omega arith in ap (λ (m : ℕ). lexemes_from m qs) e
lexemes_parted n (piece ∷ ps) qs =
    let e : n + units_in piece.1 + units_over ps ≡ n + (units_in piece.1 + units_over ps) = omega arith in
    by (is_gap piece.0) (lexemes_parted (n + units_in piece.1) ps qs ∙ ap (λ (m : ℕ). lexemes_from (n + units_in piece.1) ps ++ lexemes_from m qs) e)
  where
    by : (b : Bool) → lexemes_from (n + units_in piece.1) (ps ++ qs) ≡ lexemes_from (n + units_in piece.1) ps ++ lexemes_from (n + (units_in piece.1 + units_over ps)) qs →
        (if b then lexemes_from (n + units_in piece.1) (ps ++ qs) else record { class = piece.0; start = n; bytes = piece.1 } ∷ lexemes_from (n + units_in piece.1) (ps ++ qs))
        ≡ (if b then lexemes_from (n + units_in piece.1) ps else record { class = piece.0; start = n; bytes = piece.1 } ∷ lexemes_from (n + units_in piece.1) ps) ++ lexemes_from (n + (units_in piece.1 + units_over ps)) qs
    by true r = r
    by false r = ap (λ (ls : List Lexeme). record { class = piece.0; start = n; bytes = piece.1 } ∷ ls) r

tokens_parted : (words : List (List ℕ)) (ls ks : List Lexeme) → tokens_behind words (ls ++ ks) ≡ tokens_behind words ls ++ tokens_behind (words_behind words ls) ks
unfolding words_behind tokens_behind
tokens_parted words [] ks = refl
tokens_parted words (l ∷ ls) ks = ap (λ (ts : List Token). token_of words l ∷ ts) (tokens_parted (with_word words l.bytes) ls ks)

words_parted : (words : List (List ℕ)) (ls ks : List Lexeme) → words_behind words (ls ++ ks) ≡ words_behind (words_behind words ls) ks
unfolding words_behind
words_parted words [] ks = refl
words_parted words (l ∷ ls) ks = words_parted (with_word words l.bytes) ls ks

-- What is found from kinds alone.

abbrev SameKinds : List Token → List Token → Type 0
SameKinds [] [] = Unit {0}
SameKinds [] (u ∷ us) = ⊥
SameKinds (t ∷ ts) [] = ⊥
SameKinds (t ∷ ts) (u ∷ us) = (t.kind ≡ u.kind) × SameKinds ts us

same_kinds : (words others : List (List ℕ)) (n p : ℕ) (ps : List Spelled) → SameKinds (tokens_behind words (lexemes_from n ps)) (tokens_behind others (lexemes_from p ps))
unfolding lexemes_from tokens_behind
same_kinds words others n p [] = tt
same_kinds words others n p (piece ∷ ps) =
    by (is_gap piece.0) (λ ws vs. same_kinds ws vs (n + units_in piece.1) (p + units_in piece.1) ps)
  where
    by : (b : Bool) → ((ws vs : List (List ℕ)) → SameKinds (tokens_behind ws (lexemes_from (n + units_in piece.1) ps)) (tokens_behind vs (lexemes_from (p + units_in piece.1) ps))) →
        SameKinds (tokens_behind words (if b then lexemes_from (n + units_in piece.1) ps else record { class = piece.0; start = n; bytes = piece.1 } ∷ lexemes_from (n + units_in piece.1) ps))
        (tokens_behind others (if b then lexemes_from (p + units_in piece.1) ps else record { class = piece.0; start = p; bytes = piece.1 } ∷ lexemes_from (p + units_in piece.1) ps))
    by true r = r words others
    by false r = (refl, r (with_word words piece.1) (with_word others piece.1))

stand_same : (f : Freedom) (c d : Bool → List Bracket → Bool) → ((b : Bool) (around : List Bracket) → c b around ≡ d b around) → (b : Bool) (around : List Bracket) (ts us : List Token) → SameKinds ts us → all_may_stand f c b around ts ≡ all_may_stand f d b around us
stand_same f c d e b around [] [] s = e b around
stand_same f c d e b around [] (u ∷ us) s = absurd s
stand_same f c d e b around (t ∷ ts) [] s = absurd s
stand_same f c d e b around (t ∷ ts) (u ∷ us) s =
    ap (λ (x : Bool). may_stand f t.kind around && x) (stand_same f c d e (closes_parameters t.kind around) (kinds_after t.kind around) ts us s.1)
    ∙ ap (λ (k : Kind). may_stand f k around && all_may_stand f d (closes_parameters k around) (kinds_after k around) us) s.0

ends_same : (least : ℕ) (around : List Bracket) (k : Kind) (ts us : List Token) → SameKinds ts us → ends_group least around ts k ≡ ends_group least around us k
ends_same least around k [] [] s = refl
ends_same least around k [] (u ∷ us) s = absurd s
ends_same least around k (t ∷ ts) [] s = absurd s
ends_same least around k (t ∷ ts) (u ∷ us) s =
    ap (λ (x : Bool). not (falls_below least t.kind around) && x) (ends_same least (kinds_after t.kind around) k ts us s.1)
    ∙ ap (λ (j : Kind). not (falls_below least j around) && ends_group least (kinds_after j around) us k) s.0

super_same : (ts us : List Token) → SameKinds ts us → list_any (is kind.Super) ts ≡ list_any (is kind.Super) us
super_same [] [] s = refl
super_same [] (u ∷ us) s = absurd s
super_same (t ∷ ts) [] s = absurd s
super_same (t ∷ ts) (u ∷ us) s = ap (λ (x : Bool). is kind.Super t || x) (super_same ts us s.1) ∙ ap (λ (j : Kind). sameb kinds.the_type j kind.Super || list_any (is kind.Super) us) s.0

-- the test whether a body may differ, over other tokens of the same kinds
lead_same : (f : Freedom) (k j : Kind) (inside instead behind before xs ys zs ws : List Token) → SameKinds inside xs → SameKinds instead ys → SameKinds behind zs → SameKinds before ws →
    leads_to_body f inside k instead j behind before ≡ leads_to_body f xs k ys j zs ws
lead_same f k j inside instead behind before xs ys zs ws a b c d =
    stand_same f (may_differ f inside k instead j behind) (may_differ f xs k ys j zs)
    (λ closed around.
    ap (λ (x : Bool). closed && (is_free (freedom_within f around) && (x && (is_body around instead j && all_may_stand f (λ closed around. true) true around behind)))) (ends_same (suc (length around)) (Curly ∷ around) k inside xs a)
    ∙ ap (λ (x : Bool). closed && (is_free (freedom_within f around) && (is_body around xs k && (x && all_may_stand f (λ closed around. true) true around behind)))) (ends_same (suc (length around)) (Curly ∷ around) j instead ys b)
    ∙ ap (λ (x : Bool). closed && (is_free (freedom_within f around) && (is_body around xs k && (is_body around ys j && x)))) (stand_same f (λ closed around. true) (λ closed around. true) (λ closed around. refl) true around behind zs c))
    false [] before ws d

-- A text of such pieces.

abbrev lexeme_at : Spelled → ℕ → Lexeme
lexeme_at piece n = record { class = piece.0; start = n; bytes = piece.1 }

module _ (front middle back : List Spelled) where
  abbrev lexemes_front : List Lexeme
  lexemes_front = lexemes_from 0 front

  abbrev words_left : List (List ℕ)
  words_left = words_behind [] lexemes_front

  abbrev place_left : ℕ
  place_left = 0 + units_over front

  abbrev lexemes_middle : List Lexeme
  lexemes_middle = lexemes_from (place_left + units_in (left_brace.1)) middle

  abbrev words_middle : List (List ℕ)
  words_middle = with_word words_left (left_brace.1)

  abbrev words_right : List (List ℕ)
  words_right = words_behind words_middle lexemes_middle

  abbrev place_right : ℕ
  place_right = place_left + units_in (left_brace.1) + units_over middle

  abbrev words_back : List (List ℕ)
  words_back = with_word words_right (right_brace.1)

  abbrev lexemes_back : List Lexeme
  lexemes_back = lexemes_from (place_right + units_in (right_brace.1)) back

  abbrev words_all : List (List ℕ)
  words_all = words_behind words_back lexemes_back

  lexemes_whole : lexemes_from 0 (front ++ (left_brace ∷ (middle ++ (right_brace ∷ back)))) ≡ lexemes_front ++ (lexeme_at left_brace place_left ∷ (lexemes_middle ++ (lexeme_at right_brace place_right ∷ lexemes_back)))
  unfolding lexemes_from
  lexemes_whole =
      lexemes_parted 0 front (left_brace ∷ (middle ++ (right_brace ∷ back)))
      ∙ ap (λ (ls : List Lexeme). lexemes_front ++ (lexeme_at left_brace place_left ∷ ls)) (lexemes_parted (place_left + units_in (left_brace.1)) middle (right_brace ∷ back))

  tokens_whole : tokens_behind [] (lexemes_from 0 (front ++ (left_brace ∷ (middle ++ (right_brace ∷ back)))))
      ≡ tokens_behind [] lexemes_front ++ (token_of words_left (lexeme_at left_brace place_left) ∷ (tokens_behind words_middle lexemes_middle ++ (token_of words_right (lexeme_at right_brace place_right) ∷ tokens_behind words_back lexemes_back)))
  unfolding tokens_behind words_behind
  tokens_whole =
      ap (λ (ls : List Lexeme). tokens_behind [] ls) lexemes_whole ∙ tokens_parted [] lexemes_front (lexeme_at left_brace place_left ∷ (lexemes_middle ++ (lexeme_at right_brace place_right ∷ lexemes_back)))
      ∙ ap (λ (ts : List Token). tokens_behind [] lexemes_front ++ (token_of words_left (lexeme_at left_brace place_left) ∷ ts)) (tokens_parted words_middle lexemes_middle (lexeme_at right_brace place_right ∷ lexemes_back))

  words_whole : words_behind [] (lexemes_from 0 (front ++ (left_brace ∷ (middle ++ (right_brace ∷ back))))) ≡ words_all
  unfolding words_behind
  words_whole =
      ap (λ (ls : List Lexeme). words_behind [] ls) lexemes_whole ∙ words_parted [] lexemes_front (lexeme_at left_brace place_left ∷ (lexemes_middle ++ (lexeme_at right_brace place_right ∷ lexemes_back)))
      ∙ words_parted words_middle lexemes_middle (lexeme_at right_brace place_right ∷ lexemes_back)

  extends_back : Extends words_back words_all
  extends_back = extends_behind words_back lexemes_back

  extends_right : Extends words_right words_all
  extends_right = extends_on words_right words_back words_all (extends_with words_right (right_brace.1)) extends_back

  extends_middle : Extends words_middle words_all
  extends_middle = extends_on words_middle words_right words_all (extends_behind words_middle lexemes_middle) extends_right

  extends_left : Extends words_left words_all
  extends_left = extends_on words_left words_middle words_all (extends_with words_left (left_brace.1)) extends_middle

seen_same : (h : Hidden) (xs ts : List Token) (t u : Token) → t.kind ≡ kind.OpenBrace → u.kind ≡ kind.CloseBrace → SameKinds ts xs → is_seen h xs ≡ false → is_seen h (t ∷ (ts ++ u ∷ [])) ≡ false
seen_same h xs ts t u a b s e = ap (λ (x : Bool). h.in_mixin && x) (ap (λ (k : Kind). sameb kinds.the_type k kind.Super || list_any (is kind.Super) (ts ++ u ∷ [])) a ∙ last ts ∙ super_same ts xs s) ∙ e
  where
    last : (ts : List Token) → list_any (is kind.Super) (ts ++ u ∷ []) ≡ list_any (is kind.Super) ts
    last [] = ap (λ (k : Kind). sameb kinds.the_type k kind.Super || false) b
    last (t ∷ ts) = ap (λ (x : Bool). is kind.Super t || x) (last ts)

pub edited_braces : (in_core : Bool) (text other : List ℕ) → EditedPieces in_core text other → EditedBraces in_core text other
edited_braces in_core text other e =
    let words : words_of text ≡ words_all e.front e.inside e.back = ap (λ (ps : List Spelled). words_behind [] (lexemes_from 0 ps)) e.old ∙ words_whole e.front e.inside e.back in
    let others : words_of other ≡ words_all e.front e.instead e.back = ap (λ (ps : List Spelled). words_behind [] (lexemes_from 0 ps)) e.new ∙ words_whole e.front e.instead e.back in
    let on : ℕ = units_over e.instead in
    let back : ℕ = units_over e.inside in
    let left : ℕ = place_left e.front e.inside e.back in
    let one : Token = token_of (words_left e.front e.inside e.back) (lexeme_at left_brace left) in
    let two : Token = token_of (words_left e.front e.instead e.back) (lexeme_at left_brace left) in
    let three : Token = token_of (words_right e.front e.inside e.back) (lexeme_at right_brace (place_right e.front e.inside e.back)) in
    let four : Token = token_of (words_right e.front e.instead e.back) (lexeme_at right_brace (place_right e.front e.instead e.back)) in
    let all = words_all e.front e.inside e.back in
    let everything = words_all e.front e.instead e.back in
    let to_words : (P : List (List ℕ) → List (List ℕ) → Type 0) → P all everything → P (words_of text) (words_of other) =
    λ P p. subst (λ ws. P ws (words_of other)) (sym words) (subst (λ vs. P all vs) (sym others) p) in
    record {
      before = tokens_behind [] (lexemes_from 0 e.front);
      left = one;
      inside = tokens_behind (words_middle e.front e.inside e.back) (lexemes_middle e.front e.inside e.back);
      right = three;
      behind = tokens_behind (words_back e.front e.inside e.back) (lexemes_back e.front e.inside e.back);
      tokens = ap (λ (ps : List Spelled). tokens_behind [] (lexemes_from 0 ps)) e.old ∙ tokens_whole e.front e.inside e.back;
      earlier = tokens_behind [] (lexemes_from 0 e.front);
      left_there = two;
      instead = tokens_behind (words_middle e.front e.instead e.back) (lexemes_middle e.front e.instead e.back);
      right_there = four;
      later = tokens_behind (words_back e.front e.instead e.back) (lexemes_back e.front e.instead e.back);
      edited = ap (λ (ps : List Spelled). tokens_behind [] (lexemes_from 0 ps)) e.new ∙ tokens_whole e.front e.instead e.back;
      on = on;
      back = back;
      stays =
          to_words (λ ws vs. SameLexemes ws vs 0 0 (tokens_behind [] (lexemes_from 0 e.front)) (tokens_behind [] (lexemes_from 0 e.front)))
          (same_lexemes 0 0 [] [] all everything (lexemes_from 0 e.front) (lexemes_from 0 e.front) (shifted_from 0 0 0 0 e.front refl) (extends_left e.front e.inside e.back) (extends_left e.front e.instead e.back));
      opens =
          to_words (λ ws vs. SameLexeme ws vs 0 0 one two)
          (same_lexeme 0 0 (words_left e.front e.inside e.back) (words_left e.front e.instead e.back) all everything (lexeme_at left_brace left) (lexeme_at left_brace left) refl refl refl (extends_middle e.front e.inside e.back) (extends_middle e.front e.instead e.back));
      closes =
          to_words (λ ws vs. SameLexeme ws vs on back three four)
          (same_lexeme on back (words_right e.front e.inside e.back) (words_right e.front e.instead e.back) all everything (lexeme_at right_brace (place_right e.front e.inside e.back)) (lexeme_at right_brace (place_right e.front e.instead e.back)) refl refl
          (omega arith) (extends_back e.front e.inside e.back) (extends_back e.front e.instead e.back));
      moves_on =
          to_words
          (λ ws vs. SameLexemes ws vs on back (tokens_behind (words_back e.front e.inside e.back) (lexemes_back e.front e.inside e.back)) (tokens_behind (words_back e.front e.instead e.back) (lexemes_back e.front e.instead e.back)))
          (same_lexemes on back (words_back e.front e.inside e.back) (words_back e.front e.instead e.back) all everything (lexemes_back e.front e.inside e.back) (lexemes_back e.front e.instead e.back)
          (shifted_from on back (place_right e.front e.inside e.back + units_in (right_brace.1)) (place_right e.front e.instead e.back + units_in (right_brace.1)) e.back (omega arith)) (extends_itself all) (extends_itself everything));
      brace = refl;
      freedom = e.freedom;
      suits = e.suits;
      leads =
          lead_same e.freedom kind.CloseBrace kind.CloseBrace _ _ _ _ (tokens_in e.inside) (tokens_in e.instead) (tokens_in e.back) (tokens_in e.front) (same_kinds _ [] _ 0 e.inside) (same_kinds _ [] _ 0 e.instead) (same_kinds _ [] _ 0 e.back)
          (same_kinds [] [] 0 0 e.front) ∙ e.leads;
      above = e.above;
      part = e.part;
      below = e.below;
      ranges = e.ranges;
      begins = e.begins ∙ omega arith;
      ends = e.ends ∙ omega arith;
      marked = seen_same e.part (tokens_in e.inside) (tokens_behind (words_middle e.front e.inside e.back) (lexemes_middle e.front e.inside e.back)) one three refl refl (same_kinds _ [] _ 0 e.inside) e.marked;
      marked_there = seen_same e.part (tokens_in e.instead) (tokens_behind (words_middle e.front e.instead e.back) (lexemes_middle e.front e.instead e.back)) two four refl refl (same_kinds _ [] _ 0 e.instead) e.marked_there;
    }
