-- A string that stands next is read again where the text goes on alike behind it.
use Rattle.std.proofs.Common.{◌≡◌, inl, inr, ℕ, ◌<◌, ◌≤◌, ◌==◌, not, Bool, true, false, List, [], ◌∷◌, ◌++◌, length, drop, nat_eq, if◌then◌else◌, Option, Some, None, refl, sym, ap, subst, ◌∙◌, arith, append_assoc, length-drop, length-append}
use Rattle.std.specs.Prelude.{take_while}
use Rattle.std.specs.List.{list_all}
use Rattle.std.specs.Option.{option_map_or}
use Rattle.std.proofs.lemmas.Bool.{and_parts, eqb-true}
use Rattle.std.proofs.lemmas.List.{drop_all}
use Rattle.std.proofs.lemmas.Option.{same_Some}
use Rattle.dart_scan.specs.Characters.{is_blank, is_within_line}
use Rattle.dart_scan.specs.Lexemes.{begins}
use Rattle.dart_scan.specs.Strings.{Form, opening_of, string_form, within_reach}
use Rattle.dart_scan.specs.declared.piece.Class.TheVariants.{StringClosing, UnterminatedString}
use Rattle.dart_scan.specs.Pieces.{Spelled, Read, read_piece, string_at, next_at}
use Rattle.dart_scan.specs.Suspended.{enough}
use Rattle.dart_scan.specs.FormLemmas.{Opens, opens, Reaches, reaches, front-past, begins-split, drop-front, append-nothing}
use Rattle.dart_scan.specs.StepLemmas.{bytes_of}
use Rattle.dart_scan.specs.StringGrammar.{begins-front}
use Rattle.tree_print.proofs.Alike.{Alike, ends, is_solid, alike-behind, alike-less, begun-alike}
use Rattle.tree_print.proofs.Again.{form-alike}
use Rattle.tree_print.proofs.Plain.{Quoted, quoted-of}
use Rattle.tree_print.proofs.Ended.{one, laid, ended-alike, all-front, all-rest}
use Rattle.tree_print.proofs.Parts.{parts-fair, PartsAgain, Law}
use Rattle.tree_print.proofs.Next.{Stops, Next, reach-alike, reach-front, reach-split, reach-line, beyond-none}

-- a text that begins with a word shares it with one that goes on alike
alike-opened : (word text other : List ℕ) → list_all is_solid word ≡ true → Alike 0 text other → begins other word ≡ true → Alike (length word) text other
alike-opened word text other solid a e =
    let found = begun-alike word text other solid a e in
    let less : Alike 0 (drop (length word) text) (drop (length word) other) = lesser found.3 in
    subst (λ (t : List ℕ). Alike (length word) t other) (sym (begins-split word text found.0)) (subst (λ (t : List ℕ). Alike (length word) (word ++ drop (length word) text) t) (sym (begins-split word other e)) (alike-behind word less))
  where
    lesser : {m : ℕ} {xs ys : List ℕ} → Alike m xs ys → Alike 0 xs ys
    lesser a = alike-less 0 (omega arith) a

-- a string of the same form begins in a text that begins with its opening
form-again : (form : Form) → Quoted form → (text other : List ℕ) → string_form text ≡ Some form → Alike 0 text other → begins other (opening_of form) ≡ true → string_form other ≡ Some form
form-again form q text other e a opened =
    form-alike text other (alike-opened (opening_of form) text other q.opening a opened) (subst (λ (o : Option Form). option_map_or (λ f. length (opening_of f)) o 0 ≤ length (opening_of form)) (sym e) (omega arith)) ∙ e

head-solid : (word : List ℕ) (first : ℕ) (tail : List ℕ) → 1 ≤ length word → list_all is_solid word ≡ true → begins (first ∷ tail) word ≡ true → is_blank first ≡ false
head-solid [] first tail some solid e = absurd (omega (arith, some))
head-solid (w ∷ word) first tail some solid e =
    let is : w ≡ first = eqb-true w first (and_parts (nat_eq w first) (begins tail word) e).0 in
    let here : not (is_blank w) ≡ true = (and_parts (is_solid w) (list_all is_solid word) solid).0 in
    of (is_blank first) (ap is_solid (sym is) ∙ here)
  where
    of : (s : Bool) → not s ≡ true → s ≡ false
    of true e = absurd (cc)
    of false e = refl

-- what is read of a string, by its parts
abbrev by_parts : Form → List ℕ → Option Read → Read
by_parts form text parts =
    option_map_or (λ read. record { pieces = read.pieces; rest = read.rest ++ drop (length (within_reach form text)) text }) parts
    (record { pieces = (UnterminatedString, within_reach form text) ∷ []; rest = drop (length (within_reach form text)) text })

chosen : (text : List ℕ) (form : Form) (o : Option Form) → o ≡ Some form → option_map_or (λ f. string_at enough f text) o (read_piece false text) ≡ string_at enough form text
chosen text form None e = absurd (cc)
chosen text form (Some f) e = ap (λ (x : Form). string_at enough x text) (same_Some f form e)

-- a string whose reach is known
read-again : (form : Form) (new inside : List ℕ) (parts : Option Read) → string_form new ≡ Some form → within_reach form new ≡ opening_of form ++ inside → enough.parts form (opening_of form) inside ≡ parts
    → next_at enough false new ≡ by_parts form new parts
read-again form new inside parts e reach found =
    chosen new form (string_form new) e
    ∙ ap (by_parts form new) (ap (λ (t : List ℕ). enough.parts form (opening_of form) (drop (length (opening_of form)) t)) reach ∙ ap (enough.parts form (opening_of form)) (drop-front (opening_of form) inside) ∙ found)

opening-some : (form : Form) → 1 ≤ length form.quotes → 1 ≤ length (opening_of form)
opening-some form h = of form.raw
  where
    of : (raw : Bool) → 1 ≤ length (if raw then 114 ∷ form.quotes else form.quotes)
    of true = omega arith
    of false = h

-- A string that never ends.
endless-next : (form : Form) → Quoted form → (first : ℕ) (tail inside : List ℕ) → string_form (first ∷ tail) ≡ Some form → within_reach form (first ∷ tail) ≡ opening_of form ++ inside → enough.parts form (opening_of form) inside ≡ None
    → Next first tail (by_parts form (first ∷ tail) None)
endless-next form q first tail inside e reach none =
    let text : List ℕ = first ∷ tail in
    let all : List ℕ = within_reach form text in
    let beyond : List ℕ = drop (length all) text in
    let piece : Spelled = (UnterminatedString, all) in
    let o : Opens form text = opens text form e in
    record {
      class = UnterminatedString;
      starts = record { first = piece; rest = []; is = refl; lexeme = refl };
      ended = one piece refl;
      solid = head-solid (opening_of form) first tail (opening-some form o.some) q.opening o.begun;
      again = λ rest a stops.
          let new : List ℕ = all ++ rest in
          let nothing : within_reach form rest ≡ [] = ends-there beyond rest (beyond-none form text) stops in
          let whole : within_reach form new ≡ all = reach-front form all rest (reach-line form text) ∙ ap (λ (t : List ℕ). all ++ t) nothing ∙ append-nothing all in
          let split : new ≡ opening_of form ++ (inside ++ rest) = ap (λ (t : List ℕ). t ++ rest) reach ∙ append_assoc (opening_of form) inside rest in
          let opened : begins new (opening_of form) ≡ true = subst (λ (t : List ℕ). begins t (opening_of form) ≡ true) (sym split) (begins-front (opening_of form) (inside ++ rest)) in
          let alike : Alike 0 text new = subst (λ (t : List ℕ). Alike 0 t new) (reach-split form text) (alike-less 0 (omega arith) (alike-behind all a)) in
          ap (λ (t : List ℕ). next_at enough false (t ++ rest)) (append-nothing all)
          ∙ read-again form new inside None (form-again form q text new e alike opened) (whole ∙ reach) none
          ∙ ap (λ (t : List ℕ). record { pieces = (UnterminatedString, t) ∷ []; rest = drop (length t) new }) whole
          ∙ ap (λ (t : List ℕ). record { pieces = (UnterminatedString, all) ∷ []; rest = t }) (drop-front all rest);
      line = λ t. (subst (λ (bs : List ℕ). list_all is_within_line bs ≡ true) (sym (append-nothing all)) (all-front is_within_line all beyond (subst (λ (bs : List ℕ). list_all is_within_line bs ≡ true) (sym (reach-split form text)) t)), inr (in-line t));
    }
  where
    -- the reach of the rest is empty where that of what stood beyond was
    ends-there : (beyond rest : List ℕ) → within_reach form beyond ≡ [] → Stops UnterminatedString beyond rest → within_reach form rest ≡ []
    ends-there beyond rest h stops = of (length form.quotes == 1) h
      where
        empty : (xs : List ℕ) → length xs ≡ 0 → xs ≡ []
        empty [] e = refl
        empty (x ∷ xs) e = absurd (omega (arith, e))

        of : (s : Bool) → (if s then take_while is_within_line beyond else beyond) ≡ [] → (if s then take_while is_within_line rest else rest) ≡ []
        of true h = empty (take_while is_within_line rest) (stops.line refl (ap length h))
        of false h = stops.nothing h

    -- a string in whose text no line ends takes all of it
    in-line : list_all is_within_line (first ∷ tail) ≡ true → drop (length (within_reach form (first ∷ tail))) (first ∷ tail) ≡ []
    in-line t = of (length form.quotes == 1)
      where
        same-while : take_while is_within_line (first ∷ tail) ≡ first ∷ tail
        same-while = ap (take_while is_within_line) (sym (append-nothing (first ∷ tail))) ∙ front-past is_within_line (first ∷ tail) [] t ∙ append-nothing (first ∷ tail)

        of : (s : Bool) → drop (length (if s then take_while is_within_line (first ∷ tail) else first ∷ tail)) (first ∷ tail) ≡ []
        of true = ap (λ (t : List ℕ). drop (length t) (first ∷ tail)) same-while ∙ drop_all (length (first ∷ tail)) (first ∷ tail) (omega arith)
        of false = drop_all (length (first ∷ tail)) (first ∷ tail) (omega arith)

-- A string that ends.
whole-next : (count : ℕ) → Law count → (form : Form) → Quoted form → (first : ℕ) (tail inside : List ℕ) (read : Read) → string_form (first ∷ tail) ≡ Some form → within_reach form (first ∷ tail) ≡ opening_of form ++ inside
    → length inside < count → enough.parts form (opening_of form) inside ≡ Some read → Next first tail (by_parts form (first ∷ tail) (Some read))
whole-next count law form q first tail inside read e reach less found =
    let text : List ℕ = first ∷ tail in
    let all : List ℕ = within_reach form text in
    let beyond : List ℕ = drop (length all) text in
    let o : Opens form text = opens text form e in
    let cover : bytes_of read.pieces ++ read.rest ≡ opening_of form ++ inside = (parts-fair form (opening_of form) inside read o.some found).cover in
    let none : PartsAgain form (opening_of form) inside read [] = law.parts form q (opening_of form) inside read less found [] ends in
    record {
      class = StringClosing;
      starts = none.starts;
      ended = none.ended;
      solid = head-solid (opening_of form) first tail (opening-some form o.some) q.opening o.begun;
      again = λ rest a stops.
          let left : List ℕ = within_reach form rest in
          let old-left : within_reach form (read.rest ++ beyond) ≡ read.rest =
          reach-front form read.rest beyond (λ h. all-rest is_within_line (bytes_of read.pieces) read.rest (subst (λ (bs : List ℕ). list_all is_within_line bs ≡ true) (sym (cover ∙ sym reach)) (reach-line form text h)))
          ∙ ap (λ (t : List ℕ). read.rest ++ t) (beyond-none form text) ∙ append-nothing read.rest in
          let alike : Alike 0 read.rest left = subst (λ (t : List ℕ). Alike 0 t left) old-left (reach-alike form (read.rest ++ beyond) rest a) in
          let p : PartsAgain form (opening_of form) inside read left = law.parts form q (opening_of form) inside read less found left alike in
          let bytes : List ℕ = bytes_of (laid read.pieces) in
          let new : List ℕ = bytes ++ rest in
          let inner : bytes ++ left ≡ opening_of form ++ p.other = (parts-fair form (opening_of form) p.other (record { pieces = laid read.pieces; rest = left }) o.some p.again).cover in
          let reach' : within_reach form new ≡ bytes ++ left = reach-front form bytes rest (λ h. p.line o.within (all-rest is_within_line (opening_of form) inside (subst (λ (bs : List ℕ). list_all is_within_line bs ≡ true) reach (reach-line form text h)))) in
          let split : new ≡ opening_of form ++ (p.other ++ drop (length left) rest) =
          ap (λ (t : List ℕ). bytes ++ t) (sym (reach-split form rest)) ∙ sym (append_assoc bytes left (drop (length left) rest)) ∙ ap (λ (t : List ℕ). t ++ drop (length left) rest) inner ∙ append_assoc (opening_of form) p.other (drop (length left) rest) in
          let opened : begins new (opening_of form) ≡ true = subst (λ (t : List ℕ). begins t (opening_of form) ≡ true) (sym split) (begins-front (opening_of form) (p.other ++ drop (length left) rest)) in
          let texts : bytes_of read.pieces ++ (read.rest ++ beyond) ≡ text = sym (append_assoc (bytes_of read.pieces) read.rest beyond) ∙ ap (λ (t : List ℕ). t ++ beyond) (cover ∙ sym reach) ∙ reach-split form text in
          let shared : Alike 0 text new = subst (λ (t : List ℕ). Alike 0 t new) texts (ended-alike none.ended StringClosing false (read.rest ++ beyond) rest a) in
          let dropped : drop (length (within_reach form new)) new ≡ drop (length left) rest =
          ap (λ (t : List ℕ). drop (length t) new) reach' ∙ ap (λ (t : List ℕ). drop (length (bytes ++ left)) (bytes ++ t)) (sym (reach-split form rest))
          ∙ ap (drop (length (bytes ++ left))) (sym (append_assoc bytes left (drop (length left) rest))) ∙ drop-front (bytes ++ left) (drop (length left) rest) in
          read-again form new p.other (Some (record { pieces = laid read.pieces; rest = left })) (form-again form q text new e shared opened) (reach' ∙ inner) p.again
          ∙ ap (λ (t : List ℕ). record { pieces = laid read.pieces; rest = left ++ t }) dropped
          ∙ ap (λ (t : List ℕ). record { pieces = laid read.pieces; rest = t }) (reach-split form rest);
      line = λ t.
          let reached : list_all is_within_line (opening_of form ++ inside) ≡ true =
          subst (λ (bs : List ℕ). list_all is_within_line bs ≡ true) reach (all-front is_within_line all beyond (subst (λ (bs : List ℕ). list_all is_within_line bs ≡ true) (sym (reach-split form text)) t)) in
          (none.line o.within (all-rest is_within_line (opening_of form) inside reached), inl refl);
    }

pub string-next : (count : ℕ) → Law count → (first : ℕ) (tail : List ℕ) (form : Form) → length (first ∷ tail) ≤ count → string_form (first ∷ tail) ≡ Some form → Next first tail (string_at enough form (first ∷ tail))
string-next count law first tail form less e = of (enough.parts form (opening_of form) (drop (length (opening_of form)) (within_reach form (first ∷ tail)))) refl
  where
    of : (parts : Option Read) → enough.parts form (opening_of form) (drop (length (opening_of form)) (within_reach form (first ∷ tail))) ≡ parts → Next first tail (by_parts form (first ∷ tail) parts)
    of None found = endless-next form (quoted-of (first ∷ tail) form e) first tail (drop (length (opening_of form)) (within_reach form (first ∷ tail))) e (reaches form (first ∷ tail) (opens (first ∷ tail) form e)).opened found
    of (Some read) found =
        let o : Opens form (first ∷ tail) = opens (first ∷ tail) form e in
        let r : Reaches form (first ∷ tail) = reaches form (first ∷ tail) o in
        let all : List ℕ = within_reach form (first ∷ tail) in
        let short : length (drop (length (opening_of form)) all) < count =
        omega (arith, less, opening-some form o.some, length-drop (length (opening_of form)) all, ap length r.split, length-append all (drop (length all) (first ∷ tail)), ap length r.opened, length-append (opening_of form) (drop (length (opening_of form)) all)) in
        whole-next count law form (quoted-of (first ∷ tail) form e) first tail (drop (length (opening_of form)) all) read e r.opened short found
