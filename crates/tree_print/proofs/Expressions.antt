-- What interpolations hold is read again, and so is any string.
use Rattle.std.proofs.Common.{◌≡◌, ◌⊎◌, inl, inr, ℕ, zero, suc, ◌+◌, ◌-◌, ◌<◌, ◌≤◌, ◌==◌, ◌||◌, ◌&&◌, not, Bool, true, false, List, [], ◌∷◌, ◌++◌, length, take, drop, nat_eq, codes, if◌then◌else◌, Option, Some, None, option_map, refl, sym, ap, subst, ◌∙◌, arith, append_assoc}
use Rattle.std.specs.Prelude.{All}
use Rattle.std.specs.List.{list_all}
use Rattle.std.proofs.lemmas.Bool.{and_parts, and_from, or_right, eqb-true}
use Rattle.std.proofs.lemmas.Option.{same_Some}
use Rattle.std.proofs.lemmas.List.{take-append-drop}
use Rattle.std.specs.Option.{option_map_or}
use Rattle.std.proofs.Math.Logic.{⊎_elim}
use Rattle.dart_scan.specs.Characters.{is_blank, is_within_line}
use Rattle.dart_scan.specs.Lexemes.{begins, run}
use Rattle.dart_scan.specs.Strings.{Form, string_form}
use Rattle.dart_scan.specs.declared.piece.Class.{Class}
use Rattle.dart_scan.specs.declared.piece.Class.TheVariants.{Gap, StringClosing, InterpolationClosing}
use Rattle.dart_scan.specs.declared.piece.Piece.{Piece}
use Rattle.dart_scan.specs.Pieces.{Spelled, Read, behind, piece_at, read_piece, string_at, next_at, braces_behind, expression_pieces}
use Rattle.dart_scan.specs.Scanned.{is_gap}
use Rattle.dart_scan.specs.Suspended.{enough}
use Rattle.dart_scan.specs.FormLemmas.{begins-split}
use Rattle.dart_scan.specs.StepLemmas.{bytes_of, bytes_of-append, Fair, next-fair, brace, IsSome}
use Rattle.dart_scan.specs.LongestLemmas.{none-begins}
use Rattle.dart_scan.specs.ResumeLemmas.{enough-fair, parts-step, expression-step}
use Rattle.tree_print.proofs.Alike.{Alike, blank, no-blank, run-cons, run-none, run-some}
use Rattle.tree_print.proofs.Again.{unformed-alike, white-piece}
use Rattle.tree_print.proofs.Relaid.{separator_byte, separator, between, relaid, relaid-gap, relaid-lexeme}
use Rattle.tree_print.proofs.Ended.{one, more, ended-behind, ended-closes, ended-wide, ended-alike, separator-blank, Starts, laid, relaid-starts, all-rest}
use Rattle.tree_print.proofs.Parts.{either-second, mapped, some-quotes, expression-fair, ExpressionAgain, Law, line-append}
use Rattle.tree_print.proofs.Names.{parts-again}
use Rattle.tree_print.proofs.Next.{Stops, Next, lexeme-next}
use Rattle.tree_print.proofs.Literals.{string-next}

-- White space before a lexeme.

pub white-next : (white first : ℕ) (text : List ℕ) → is_blank white ≡ true → is_blank first ≡ false → next_at enough false (white ∷ first ∷ text) ≡ record { pieces = (Gap, white ∷ []) ∷ []; rest = first ∷ text }
white-next white first text w f =
    let all : List ℕ = white ∷ first ∷ text in
    let one-byte : run is_blank all ≡ 1 = run-some is_blank white (first ∷ text) w ∙ ap suc (run-none is_blank first text f) in
    none-begins all (string_form all) (unformed-alike [] all (blank white (first ∷ text) w) refl)
    ∙ ap (λ (p : Piece). record { pieces = (p.class, take p.size all) ∷ []; rest = drop p.size all }) (white-piece all one-byte)

-- a separator in an interpolation
gap-step : (before : Class) (braces first : ℕ) (text : List ℕ) → is_blank first ≡ false
    → enough.expression braces (separator_byte before ∷ first ∷ text) ≡ option_map (behind (separator before ∷ [])) (enough.expression braces (first ∷ text))
gap-step before braces first text f =
    let white : ℕ = separator_byte before in
    let w : is_blank white ≡ true = separator-blank before in
    let closing : nat_eq 125 white ≡ false = no-blank (nat_eq 125) refl refl refl refl white w in
    let opening : nat_eq 123 white ≡ false = no-blank (nat_eq 123) refl refl refl refl white w in
    let other : (begins (white ∷ first ∷ text) (codes "}") && braces == 0) ≡ false = ap (λ (s : Bool). (s && true) && braces == 0) closing in
    let same : braces_behind braces (white ∷ first ∷ text) ≡ braces =
    ap (λ (s : Bool). if s && true then braces + 1 else (if begins (white ∷ first ∷ text) (codes "}") then braces - 1 else braces)) opening ∙ ap (λ (s : Bool). if s && true then braces - 1 else braces) closing in
    expression-step braces (white ∷ first ∷ text)
    ∙ either-second (begins (white ∷ first ∷ text) (codes "}") && braces == 0) _ _ other
    ∙ ap (λ (r : Read). option_map (behind r.pieces) (enough.expression (braces_behind braces (white ∷ first ∷ text)) r.rest)) (white-next white first text w f)
    ∙ ap (λ (b : ℕ). option_map (behind (separator before ∷ [])) (enough.expression b (first ∷ text))) same

-- a byte that is not within a line is white space
line-blank : (byte : ℕ) → is_within_line byte ≡ false → is_blank byte ≡ true
line-blank byte h = of (byte == 10 || byte == 13) refl h
  where
    of : (s : Bool) → (byte == 10 || byte == 13) ≡ s → not s ≡ false → is_blank byte ≡ true
    of true e h = or_right (byte == 32 || byte == 9) (byte == 10 || byte == 13) e
    of false e h = absurd (cc)

pub line-ends : (byte : ℕ) (text : List ℕ) → run is_within_line (byte ∷ text) ≡ 0 → is_blank byte ≡ true
line-ends byte text h = of (is_within_line byte) refl (sym (run-cons is_within_line byte text) ∙ h)
  where
    of : (s : Bool) → is_within_line byte ≡ s → (if s then suc (run is_within_line text) else 0) ≡ 0 → is_blank byte ≡ true
    of true e h = absurd (omega (arith, h))
    of false e h = line-blank byte e

-- pieces that are laid anew begin with the same byte
pub front-same : (ps : List Spelled) (text rest : List ℕ) (first : ℕ) (tail : List ℕ) → Starts ps → All IsSome ps → bytes_of ps ++ text ≡ first ∷ tail → (further_on : List ℕ) × (bytes_of (laid ps) ++ rest ≡ first ∷ further_on)
front-same ps text rest first tail s some e = of s.first.1 refl
  where
    piece : All IsSome (s.first ∷ s.rest)
    piece = subst (λ (xs : List Spelled). All IsSome xs) s.is some

    others : List Spelled
    others = relaid (Some s.first.0) false s.rest

    new : bytes_of (laid ps) ++ rest ≡ (s.first.1 ++ bytes_of others) ++ rest
    new = ap (λ (xs : List Spelled). bytes_of (laid xs) ++ rest) s.is ∙ ap (λ (xs : List Spelled). bytes_of xs ++ rest) (relaid-lexeme (Some StringClosing) false s.first s.rest s.lexeme)

    old : (s.first.1 ++ bytes_of s.rest) ++ text ≡ first ∷ tail
    old = ap (λ (xs : List Spelled). bytes_of xs ++ text) (sym s.is) ∙ e

    of : (bytes : List ℕ) → s.first.1 ≡ bytes → (further_on : List ℕ) × (bytes_of (laid ps) ++ rest ≡ first ∷ further_on)
    of [] is = absurd (omega (arith, piece zero s.first (omega arith), ap length is))
    of (b ∷ bytes) is =
        let here : b ∷ ((bytes ++ bytes_of s.rest) ++ text) ≡ first ∷ tail = ap (λ (bs : List ℕ). (bs ++ bytes_of s.rest) ++ text) (sym is) ∙ old in
        let same : b ≡ first = cc in
        ((bytes ++ bytes_of others) ++ rest, new ∙ ap (λ (bs : List ℕ). (bs ++ bytes_of others) ++ rest) is ∙ ap (λ (x : ℕ). x ∷ ((bytes ++ bytes_of others) ++ rest)) same)

-- An interpolation ends.
closing-again : (tail rest : List ℕ) → ExpressionAgain 0 (125 ∷ tail) (record { pieces = (InterpolationClosing, codes "}") ∷ []; rest = tail }) rest
closing-again tail rest = record { again = again; ended = one (InterpolationClosing, codes "}") refl; line = line; white = white }
  where
    piece : Spelled
    piece = (InterpolationClosing, codes "}")

    again : (before : Class) (wide : Bool) → enough.expression 0 (bytes_of (between (Some before) wide ++ (InterpolationClosing, codes "}") ∷ []) ++ rest)
        ≡ Some (record { pieces = between (Some before) wide ++ (InterpolationClosing, codes "}") ∷ []; rest = rest })
    again before true = gap-step before 0 125 rest refl ∙ ap (option_map (behind (separator before ∷ []))) (expression-step 0 (125 ∷ rest))
    again before false = expression-step 0 (125 ∷ rest)

    line : (before : Class) (wide : Bool) → is_within_line (separator_byte before) ≡ true → list_all is_within_line (125 ∷ tail) ≡ true → list_all is_within_line (bytes_of (between (Some before) wide ++ (InterpolationClosing, codes "}") ∷ [])) ≡ true
    line before true h t = and_from (is_within_line (separator_byte before)) true h refl
    line before false h t = refl

    white : (first : ℕ) (further_on : List ℕ) → 125 ∷ tail ≡ first ∷ further_on → is_blank first ≡ true → (before : Class) → relaid (Some before) false ((InterpolationClosing, codes "}") ∷ []) ≡ relaid (Some before) true ((InterpolationClosing, codes "}") ∷ [])
    white first further_on e b before = let same : 125 ≡ first = cc in let wrong : is_blank 125 ≡ true = ap is_blank same ∙ b in absurd (cc)

-- nothing is read of nothing
no-expression : (braces : ℕ) (read : Read) → enough.expression braces [] ≡ Some read → ⊥
no-expression braces read e = let none : None ≡ Some read = sym (expression-step braces []) ∙ e in absurd (cc)

-- A gap comes next.
gap-again : (count : ℕ) → Law count → (braces : ℕ) (text bytes left : List ℕ) (class : Class) (later : Read) (rest : List ℕ) → is_gap class ≡ true → bytes ++ left ≡ text → length left < count → enough.expression braces left ≡ Some later → Alike 0 later.rest rest
    → ExpressionAgain braces text (behind ((class, bytes) ∷ []) later) rest
gap-again count law braces text bytes left class later rest gap whole less e a =
    let x : ExpressionAgain braces left later rest = law.expression braces left later less e rest a in
    let same : (before : Class) (wide : Bool) → relaid (Some before) wide ((class, bytes) ∷ later.pieces) ≡ relaid (Some before) true later.pieces = λ before wide. relaid-gap (Some before) wide (class, bytes) later.pieces gap in
    record {
      again = λ before wide. subst (λ (ps : List Spelled). enough.expression braces (bytes_of ps ++ rest) ≡ Some (record { pieces = ps; rest = rest })) (sym (same before wide)) (x.again before true);
      ended = more (class, bytes) x.ended;
      line = λ before wide h t. subst (λ (ps : List Spelled). list_all is_within_line (bytes_of ps) ≡ true) (sym (same before wide))
          (x.line before true h (all-rest is_within_line bytes left (subst (λ (bs : List ℕ). list_all is_within_line bs ≡ true) (sym whole) t)));
      white = λ first tail e b before. same before false ∙ sym (same before true);
    }

-- A lexeme or a string comes next.
lexeme-again-in : (count : ℕ) → Law count → (braces first : ℕ) (tail : List ℕ) (next later : Read) (rest : List ℕ) → Next first tail next → Fair (first ∷ tail) (length tail) next → length tail < count
    → (begins (first ∷ tail) (codes "}") && braces == 0) ≡ false → enough.expression (braces_behind braces (first ∷ tail)) next.rest ≡ Some later → Alike 0 later.rest rest
    → ExpressionAgain braces (first ∷ tail) (behind next.pieces later) rest
lexeme-again-in count law braces first tail next later rest n fair less other e a =
    let inner : ℕ = braces_behind braces (first ∷ tail) in
    let class : Class = n.class in
    let x : ExpressionAgain inner next.rest later rest = law.expression inner next.rest later (omega (arith, less, fair.shrinks)) e rest a in
    let new : List Spelled = relaid (Some class) false later.pieces in
    let after : List ℕ = bytes_of new ++ rest in
    let cover : bytes_of later.pieces ++ later.rest ≡ next.rest = (expression-fair inner next.rest later e).cover in
    let alike : Alike 0 next.rest after = subst (λ (t : List ℕ). Alike 0 t after) cover (ended-alike x.ended class false later.rest rest a) in
    let stops : Stops class next.rest after = record { line = line-stops class next.rest later rest inner e x; nothing = λ h. absurd (no-expression inner later (subst (λ (t : List ℕ). enough.expression inner t ≡ Some later) h e)) } in
    let front = front-same next.pieces next.rest after first tail n.starts fair.some fair.cover in
    let step : enough.expression braces (first ∷ front.0) ≡ Some (record { pieces = laid next.pieces ++ new; rest = rest }) =
    expression-step braces (first ∷ front.0) ∙ either-second (begins (first ∷ front.0) (codes "}") && braces == 0) _ _ other
    ∙ ap (λ (r : Read). option_map (behind r.pieces) (enough.expression inner r.rest)) (ap (next_at enough false) (sym front.1) ∙ n.again after alike stops)
    ∙ ap (option_map (behind (laid next.pieces))) (x.again class false) in
    let bytes : bytes_of (laid next.pieces ++ new) ++ rest ≡ first ∷ front.0 =
    ap (λ (bs : List ℕ). bs ++ rest) (bytes_of-append (laid next.pieces) new) ∙ append_assoc (bytes_of (laid next.pieces)) (bytes_of new) rest ∙ front.1 in
    let same : (before : Class) (wide : Bool) → relaid (Some before) wide (next.pieces ++ later.pieces) ≡ between (Some before) wide ++ (laid next.pieces ++ new) = λ before wide.
    ended-closes n.ended class refl (Some before) wide later.pieces ∙ ap (λ (xs : List Spelled). xs ++ new) (relaid-starts next.pieces n.starts (Some before) wide) ∙ append_assoc (between (Some before) wide) (laid next.pieces) new in
    record {
      again = λ before wide. subst (λ (ps : List Spelled). enough.expression braces (bytes_of ps ++ rest) ≡ Some (record { pieces = ps; rest = rest })) (sym (same before wide)) (behind-gap before wide (laid next.pieces ++ new) front.0 n.solid bytes step);
      ended = ended-behind next.pieces x.ended;
      line = λ before wide h t.
          let rests : list_all is_within_line next.rest ≡ true = all-rest is_within_line (bytes_of next.pieces) next.rest (subst (λ (bs : List ℕ). list_all is_within_line bs ≡ true) (sym fair.cover) t) in
          subst (λ (ps : List Spelled). list_all is_within_line (bytes_of ps) ≡ true) (sym (same before wide))
          (line-append (between (Some before) wide) (laid next.pieces ++ new) (between-line before wide h)
          (line-append (laid next.pieces) new (n.line t).0
          (⊎_elim (λ (s : is_within_line (separator_byte class) ≡ true). x.line class false s rests)
          (λ (none : next.rest ≡ []). absurd (no-expression inner later (subst (λ (t : List ℕ). enough.expression inner t ≡ Some later) none e))) (n.line t).1)));
      white = λ first' further_on h b before. not-white first' further_on h b n.solid;
    }
  where
    behind-gap : (before : Class) (wide : Bool) (ps : List Spelled) (further_on : List ℕ) → is_blank first ≡ false → bytes_of ps ++ rest ≡ first ∷ further_on → enough.expression braces (first ∷ further_on) ≡ Some (record { pieces = ps; rest = rest })
        → enough.expression braces (bytes_of (between (Some before) wide ++ ps) ++ rest) ≡ Some (record { pieces = between (Some before) wide ++ ps; rest = rest })
    behind-gap before true ps further_on solid bytes step =
        ap (λ (bs : List ℕ). enough.expression braces (separator_byte before ∷ bs)) bytes ∙ gap-step before braces first further_on solid ∙ ap (option_map (behind (separator before ∷ []))) step
    behind-gap before false ps further_on solid bytes step = ap (enough.expression braces) bytes ∙ step

    between-line : (before : Class) (wide : Bool) → is_within_line (separator_byte before) ≡ true → list_all is_within_line (bytes_of (between (Some before) wide)) ≡ true
    between-line before true h = and_from (is_within_line (separator_byte before)) true h refl
    between-line before false h = refl

    not-white : {A : Type 0} (other : ℕ) (further_on : List ℕ) → first ∷ tail ≡ other ∷ further_on → is_blank other ≡ true → is_blank first ≡ false → A
    not-white other further_on h b solid = let same : first ≡ other = cc in let wrong : is_blank first ≡ true = ap is_blank same ∙ b in absurd (cc)

    line-stops : (class : Class) (text : List ℕ) (later : Read) (rest : List ℕ) (inner : ℕ) → enough.expression inner text ≡ Some later → ExpressionAgain inner text later rest → separator_byte class ≡ 10 → run is_within_line text ≡ 0
        → run is_within_line (bytes_of (relaid (Some class) false later.pieces) ++ rest) ≡ 0
    line-stops class [] later rest inner e x feed h = absurd (no-expression inner later e)
    line-stops class (b ∷ text) later rest inner e x feed h =
        let w = ended-wide x.ended class in
        let here : relaid (Some class) false later.pieces ≡ separator class ∷ w.0 = x.white b text refl (line-ends b text h) class ∙ w.1 in
        ap (λ (ps : List Spelled). run is_within_line (bytes_of ps ++ rest)) here ∙ run-none is_within_line (separator_byte class) (bytes_of w.0 ++ rest) (ap is_within_line feed)

-- the next piece is a gap only where no brace stands
brace-lexeme : (byte first : ℕ) (tail : List ℕ) → is_gap (piece_at false (byte ∷ tail)).class ≡ false → is_gap (piece_at false (first ∷ tail)).class ≡ true → begins (first ∷ tail) (byte ∷ []) ≡ false
brace-lexeme byte first tail lexeme gap = of (begins (first ∷ tail) (byte ∷ [])) refl
  where
    of : (s : Bool) → begins (first ∷ tail) (byte ∷ []) ≡ s → s ≡ false
    of false e = refl
    of true e =
        let split : first ∷ tail ≡ byte ∷ tail = begins-split (byte ∷ []) (first ∷ tail) e in
        let wrong : is_gap (piece_at false (first ∷ tail)).class ≡ false = ap (λ (t : List ℕ). is_gap (piece_at false t).class) split ∙ lexeme in
        absurd (cc)

no-braces : (braces first : ℕ) (tail : List ℕ) → is_gap (piece_at false (first ∷ tail)).class ≡ true → braces_behind braces (first ∷ tail) ≡ braces
no-braces braces first tail gap =
    ap (λ (s : Bool). if s then braces + 1 else (if begins (first ∷ tail) (codes "}") then braces - 1 else braces)) (brace-lexeme 123 first tail refl gap)
    ∙ ap (λ (s : Bool). if s then braces - 1 else braces) (brace-lexeme 125 first tail refl gap)

-- what the next pieces are
pub next-piece : (text : List ℕ) → string_form text ≡ None → next_at enough false text ≡ read_piece false text
next-piece text e = none-begins text (string_form text) e

pub next-string : (text : List ℕ) (form : Form) → string_form text ≡ Some form → next_at enough false text ≡ string_at enough form text
next-string text form e = of (string_form text) e
  where
    of : (o : Option Form) → o ≡ Some form → option_map_or (λ f. string_at enough f text) o (read_piece false text) ≡ string_at enough form text
    of None e = absurd (cc)
    of (Some f) e = ap (λ (x : Form). string_at enough x text) (same_Some f form e)

-- the next pieces of a text: a gap, or a lexeme that is read again
pub gap-or-lexeme : (count : ℕ) → Law count → (first : ℕ) (tail : List ℕ) → length (first ∷ tail) ≤ count
    → ((string_form (first ∷ tail) ≡ None) × (is_gap (piece_at false (first ∷ tail)).class ≡ true)) ⊎ Next first tail (next_at enough false (first ∷ tail))
gap-or-lexeme count law first tail less = of (string_form (first ∷ tail)) (is_gap (piece_at false (first ∷ tail)).class) refl refl
  where
    of : (o : Option Form) (s : Bool) → string_form (first ∷ tail) ≡ o → is_gap (piece_at false (first ∷ tail)).class ≡ s
        → ((string_form (first ∷ tail) ≡ None) × (is_gap (piece_at false (first ∷ tail)).class ≡ true)) ⊎ Next first tail (next_at enough false (first ∷ tail))
    of None true e f = inl (e, f)
    of None false e f = inr (subst (λ (r : Read). Next first tail r) (sym (next-piece (first ∷ tail) e)) (lexeme-next first tail e f))
    of (Some form) s e f = inr (subst (λ (r : Read). Next first tail r) (sym (next-string (first ∷ tail) form e)) (string-next count law first tail form less e))

expression-again : (count : ℕ) → Law count → (braces : ℕ) (text : List ℕ) (read : Read) → length text ≤ count → expression_pieces enough braces text ≡ Some read → (rest : List ℕ) → Alike 0 read.rest rest → ExpressionAgain braces text read rest
expression-again count law braces [] read less e rest a = absurd (cc)
expression-again count law braces (first ∷ tail) read less e rest a = of (begins (first ∷ tail) (codes "}") && braces == 0) refl e
  where
    next : Read
    next = next_at enough false (first ∷ tail)

    further : (begins (first ∷ tail) (codes "}") && braces == 0) ≡ false → (later : Read) → enough.expression (braces_behind braces (first ∷ tail)) (next_at enough false (first ∷ tail)).rest ≡ Some later → Alike 0 later.rest rest
        → ExpressionAgain braces (first ∷ tail) (behind (next_at enough false (first ∷ tail)).pieces later) rest
    further other later e a = ⊎_elim
        (λ (g : (string_form (first ∷ tail) ≡ None) × (is_gap (piece_at false (first ∷ tail)).class ≡ true)). gap g.0 g.1)
        (λ (n : Next first tail (next_at enough false (first ∷ tail))). lexeme-again-in count law braces first tail (next_at enough false (first ∷ tail)) later rest n (next-fair enough enough-fair false first tail) (omega (arith, less)) other e a)
        (gap-or-lexeme count law first tail less)
      where
        gap : string_form (first ∷ tail) ≡ None → is_gap (piece_at false (first ∷ tail)).class ≡ true → ExpressionAgain braces (first ∷ tail) (behind (next_at enough false (first ∷ tail)).pieces later) rest
        gap none g =
            let size : ℕ = (piece_at false (first ∷ tail)).size in
            let is : next_at enough false (first ∷ tail) ≡ read_piece false (first ∷ tail) = next-piece (first ∷ tail) none in
            let fair : Fair (first ∷ tail) (length tail) (next_at enough false (first ∷ tail)) = next-fair enough enough-fair false first tail in
            let short : length (drop size (first ∷ tail)) < count = let left = ap (λ (r : Read). length r.rest) is in omega (arith, less, fair.shrinks, left) in
            let found : enough.expression braces (drop size (first ∷ tail)) ≡ Some later =
            ap (λ (b : ℕ). enough.expression b (drop size (first ∷ tail))) (sym (no-braces braces first tail g)) ∙ ap (λ (r : Read). enough.expression (braces_behind braces (first ∷ tail)) r.rest) (sym is) ∙ e in
            subst (λ (r : Read). ExpressionAgain braces (first ∷ tail) (behind r.pieces later) rest) (sym is)
            (gap-again count law braces (first ∷ tail) (take size (first ∷ tail)) (drop size (first ∷ tail)) (piece_at false (first ∷ tail)).class later rest g (take-append-drop size (first ∷ tail)) short found a)

    of : (closes : Bool) → (begins (first ∷ tail) (codes "}") && braces == 0) ≡ closes
        → (if closes then Some (record { pieces = (InterpolationClosing, codes "}") ∷ []; rest = tail })
        else option_map (behind (next_at enough false (first ∷ tail)).pieces) (enough.expression (braces_behind braces (first ∷ tail)) (next_at enough false (first ∷ tail)).rest)) ≡ Some read
        → ExpressionAgain braces (first ∷ tail) read rest
    of true c e =
        let is = same_Some (record { pieces = (InterpolationClosing, codes "}") ∷ []; rest = tail }) read e in
        let none : braces ≡ 0 = eqb-true braces 0 (and_parts (begins (first ∷ tail) (codes "}")) (braces == 0) c).1 in
        subst (λ (r : Read). ExpressionAgain braces (first ∷ tail) r rest) is
        (subst (λ (t : List ℕ). ExpressionAgain braces t (record { pieces = (InterpolationClosing, codes "}") ∷ []; rest = tail }) rest) (brace first tail braces c)
        (subst (λ (n : ℕ). ExpressionAgain n (125 ∷ tail) (record { pieces = (InterpolationClosing, codes "}") ∷ []; rest = tail }) rest) (sym none) (closing-again tail rest)))
    of false c e =
        let m = mapped (behind (next_at enough false (first ∷ tail)).pieces) (enough.expression (braces_behind braces (first ∷ tail)) (next_at enough false (first ∷ tail)).rest) read e in
        subst (λ (r : Read). ExpressionAgain braces (first ∷ tail) r rest) m.2 (further c m.0 m.1 (subst (λ (r : Read). Alike 0 r.rest rest) (sym m.2) a))

-- Strings and interpolations of every length are read again.
pub law : (count : ℕ) → Law count
law zero = record { parts = λ form q begun text read less e rest a. absurd (omega (arith, less)); expression = λ braces text read less e rest a. absurd (omega (arith, less)) }
law (suc count) = record {
  parts = λ form q begun text read less e rest a. parts-again count (law count) form q begun text read (omega (arith, less)) (sym (parts-step form begun text (some-quotes form q)) ∙ e) rest a;
  expression = λ braces text read less e rest a. expression-again count (law count) braces text read (omega (arith, less)) (sym (expression-step braces text) ∙ e) rest a;
}
