-- How far a comment goes is as the grammar of comments says.
use Rattle.std.proofs.Common.{◌≡◌, ℕ, zero, suc, ◌+◌, ◌-◌, ◌==◌, Bool, true, false, ◌&&◌, not, List, [], ◌∷◌, ◌++◌, length, take, drop, codes, nat_eq, Option, Some, None, option_map, if◌then◌else◌, refl, sym, subst, ◌∙◌, ap, arith, add-one, length-append, append_assoc}
use Rattle.std.specs.Prelude.{IfSome}
use Rattle.std.proofs.lemmas.Bool.{eqb-true}
use Rattle.std.proofs.Math.Seq.{take-append_seam}
use Rattle.dart_scan.specs.Lexemes.{begins}
use Rattle.dart_scan.specs.Comments.{neither_opens_nor_closes, comment_end, comment_size, IsComment, comment, AreParts, no_more, inner_comment, plain_byte}
use Rattle.dart_scan.proofs.CommentLemmas.{end_of, end_of-step, further, comment_end-empty}

-- One step of the walk, by what stands first.

past_open : (inner : ℕ) (text : List ℕ) → end_of inner (codes "/*" ++ text) ≡ option_map (λ n. 2 + n) (end_of (inner + 1) text)
past_open inner text = end_of-step inner (codes "/*" ++ text)

past_close : (inner : ℕ) (text : List ℕ) → end_of (inner + 1) (codes "*/" ++ text) ≡ option_map (λ n. 2 + n) (end_of inner text)
past_close inner text =
    let test : ((inner + 1) == 0) ≡ false = grind arith in
    let less : (inner + 1) - 1 ≡ inner = omega arith in
    end_of-step (inner + 1) (codes "*/" ++ text) ∙ rw (test, less) refl

past_plain : (inner byte : ℕ) (text : List ℕ) → neither_opens_nor_closes (byte ∷ text) ≡ true → end_of inner (byte ∷ text) ≡ option_map (λ n. 1 + n) (end_of inner text)
past_plain inner byte text h = end_of-step inner (byte ∷ text) ∙ walk (begins (byte ∷ text) (codes "*/")) (begins (byte ∷ text) (codes "/*")) _ _ _ h
  where
    walk : (closes opens : Bool) (a b c : Option ℕ) → (not opens && not closes) ≡ true → (if closes then a else (if opens then b else c)) ≡ c
    walk false false a b c h = refl
    walk true false a b c h = absurd (cc)
    walk closes true a b c h = absurd (cc)

past_last : (text : List ℕ) → end_of 0 (codes "*/" ++ text) ≡ Some 2
past_last text = end_of-step 0 (codes "*/" ++ text)

no_further : (o : Option ℕ) → option_map (λ n. 0 + n) o ≡ o
no_further None = refl
no_further (Some n) = ap Some (omega arith)

comment_length : (parts : List ℕ) → 2 + (length parts + 2) ≡ length (codes "/*" ++ (parts ++ codes "*/"))
comment_length parts = omega (arith, length-append parts (codes "*/"))

-- In a text that begins with a comment of the grammar, the walk ends where the comment does.

-- what stands behind the end of a comment doesn't change whether `/*` or `*/` begins at a byte before it
ahead : (byte : ℕ) (parts after : List ℕ) → neither_opens_nor_closes (byte ∷ (parts ++ (codes "*/" ++ after))) ≡ neither_opens_nor_closes (byte ∷ (parts ++ codes "*/"))
ahead byte [] after = refl
ahead byte (b ∷ []) after = refl
ahead byte (b ∷ c ∷ parts) after = refl

mutual
  past_comment : {text : List ℕ} → IsComment text → (inner : ℕ) (after : List ℕ) → end_of inner (text ++ after) ≡ option_map (λ n. length text + n) (end_of inner after)
  past_comment (comment {parts = parts} p) inner after =
      ap (λ behind. end_of inner (codes "/*" ++ behind)) (append_assoc parts (codes "*/") after)
      ∙ past_open inner (parts ++ (codes "*/" ++ after))
      ∙ ap (option_map (λ n. 2 + n)) (past_parts p (inner + 1) after ∙ ap (option_map (λ n. length parts + n)) (past_close inner after))
      ∙ ap (option_map (λ n. 2 + n)) (further (length parts) 2 (end_of inner after))
      ∙ further 2 (length parts + 2) (end_of inner after)
      ∙ ap (λ k. option_map (λ n. k + n) (end_of inner after)) (comment_length parts)

  past_parts : {parts : List ℕ} → AreParts parts → (inner : ℕ) (after : List ℕ) → end_of inner (parts ++ (codes "*/" ++ after)) ≡ option_map (λ n. length parts + n) (end_of inner (codes "*/" ++ after))
  past_parts no_more inner after = sym (no_further (end_of inner (codes "*/" ++ after)))
  past_parts (inner_comment {inner = first} {parts = parts} p q) inner after =
      let behind = codes "*/" ++ after in
      ap (end_of inner) (append_assoc first parts behind)
      ∙ past_comment p inner (parts ++ behind)
      ∙ ap (option_map (λ n. length first + n)) (past_parts q inner after)
      ∙ further (length first) (length parts) (end_of inner behind)
      ∙ ap (λ k. option_map (λ n. k + n) (end_of inner behind)) (sym (length-append first parts))
  past_parts (plain_byte {byte = byte} {parts = parts} h p) inner after =
      let behind = codes "*/" ++ after in
      past_plain inner byte (parts ++ behind) (ahead byte parts after ∙ h)
      ∙ ap (option_map (λ n. 1 + n)) (past_parts p inner after)
      ∙ further 1 (length parts) (end_of inner behind)
      ∙ ap (λ k. option_map (λ n. k + n) (end_of inner behind)) one_more
    where
      one_more : 1 + length parts ≡ suc (length parts)
      one_more = omega arith

pub comment-size : {text : List ℕ} → IsComment text → (after : List ℕ) → comment_size (drop 2 (text ++ after)) ≡ Some (length text)
comment-size (comment {parts = parts} p) after =
    let ends : end_of 0 ((parts ++ codes "*/") ++ after) ≡ Some (length parts + 2) =
    ap (end_of 0) (append_assoc parts (codes "*/") after) ∙ past_parts p 0 after ∙ ap (option_map (λ n. length parts + n)) (past_last after) in
    ap (option_map (λ n. 2 + n)) ends ∙ ap Some (comment_length parts)

-- Where the walk ends, what it read is a comment of the grammar.

-- so many bytes at the front of the text end so many open comments
abbrev Closes : ℕ → List ℕ → ℕ → Type 0
Closes zero text size = size ≡ 0
Closes (suc count) text size =
    (parts : List ℕ) × (after : List ℕ) × (more : ℕ) × AreParts parts × (text ≡ parts ++ (codes "*/" ++ after)) × Closes count after more × (size ≡ (length parts + 2) + more)

-- The parts are read back from the end: a `*/`, a `/*` or a plain byte stands before what is known.

closing : (count size n : ℕ) (text rest : List ℕ) → text ≡ codes "*/" ++ rest → n ≡ 2 + size → Closes count rest size → Closes (suc count) text n
closing count size n text rest front k h = ([], rest, size, no_more, front, h, omega (arith, k))

opening : (count size n : ℕ) (text rest : List ℕ) → text ≡ codes "/*" ++ rest → n ≡ 2 + size → Closes (suc (suc count)) rest size → Closes (suc count) text n
opening count size n text rest front k (inner, behind, more, p, e, (parts, after, more', p', e', behind', s'), s) =
    let first = codes "/*" ++ (inner ++ codes "*/") in (
      first ++ parts,
      after,
      more',
      inner_comment (comment p) p',
      front ∙ ap (λ t. codes "/*" ++ t) (e ∙ ap (λ t. inner ++ (codes "*/" ++ t)) e' ∙ sym (append_assoc inner (codes "*/") (parts ++ (codes "*/" ++ after))) ∙ sym (append_assoc (inner ++ codes "*/") parts (codes "*/" ++ after))),
      behind',
      omega (arith, k, s, s', length-append first parts, length-append inner (codes "*/")),
    )

plain : (count size n byte : ℕ) (text : List ℕ) → neither_opens_nor_closes (byte ∷ text) ≡ true → n ≡ 1 + size → Closes (suc count) text size → Closes (suc count) (byte ∷ text) n
plain count size n byte text none k (parts, after, more, p, e, rest, s) =
    let none' : neither_opens_nor_closes (byte ∷ (parts ++ codes "*/")) ≡ true = sym (ahead byte parts after) ∙ ap (λ t. neither_opens_nor_closes (byte ∷ t)) (sym e) ∙ none in
    (byte ∷ parts, after, more, plain_byte none' p, ap (λ t. byte ∷ t) e, rest, omega (arith, k, s))

begun : (text : List ℕ) (a b : ℕ) → begins text (a ∷ b ∷ []) ≡ true → text ≡ a ∷ b ∷ drop 2 text
begun [] a b h = absurd (cc)
begun (x ∷ []) a b h = absurd (alone (nat_eq a x) h)
  where
    alone : (same : Bool) → (same && false) ≡ true → ⊥
    alone true e = absurd (cc)
    alone false e = absurd (cc)
begun (x ∷ y ∷ text) a b h = same_two (nat_eq a x) (nat_eq b y) refl refl h
  where
    same_two : (s t : Bool) → nat_eq a x ≡ s → nat_eq b y ≡ t → (s && (t && true)) ≡ true → x ∷ y ∷ text ≡ a ∷ b ∷ text
    same_two true true e f h = ap (λ c. c ∷ y ∷ text) (sym (eqb-true a x e)) ∙ ap (λ c. a ∷ c ∷ text) (sym (eqb-true b y f))
    same_two true false e f h = absurd (cc)
    same_two false t e f h = absurd (cc)

from_map : (k : ℕ) (o : Option ℕ) (n : ℕ) → option_map (λ m. k + m) o ≡ Some n → (m : ℕ) × (o ≡ Some m) × (n ≡ k + m)
from_map k None n e = absurd (cc)
from_map k (Some m) n e = (m, refl, cc)

-- what the walk reads, by what stands first, if that holds of what it reads behind
by_front : (inner byte : ℕ) (text : List ℕ) (n : ℕ) (a b c : Option ℕ)
    → ((m : ℕ) → a ≡ Some m → Closes (suc (inner - 1)) (drop 1 text) m) → ((m : ℕ) → b ≡ Some m → Closes (suc (inner + 1)) (drop 1 text) m) → ((m : ℕ) → c ≡ Some m → Closes (suc inner) text m)
    → (closes opens : Bool) → begins (byte ∷ text) (codes "*/") ≡ closes → begins (byte ∷ text) (codes "/*") ≡ opens
    → (if closes then (if inner == 0 then Some 2 else option_map (λ m. 2 + m) a) else (if opens then option_map (λ m. 2 + m) b else option_map (λ m. 1 + m) c)) ≡ Some n → Closes (suc inner) (byte ∷ text) n
by_front zero byte text n a b c ha hb hc true o e f g =
    let size : 2 ≡ n = cc in
    closing 0 0 n (byte ∷ text) (drop 1 text) (begun (byte ∷ text) 42 47 e) (sym size) refl
by_front (suc k) byte text n a b c ha hb hc true o e f g =
    let test : (suc k == 0) ≡ false = grind arith in
    let (m, some, size) = from_map 2 a n (rw test at g) in
    let same : suc k - 1 ≡ k = omega arith in
    closing (suc k) m n (byte ∷ text) (drop 1 text) (begun (byte ∷ text) 42 47 e) size (subst (λ i. Closes (suc i) (drop 1 text) m) same (ha m some))
by_front inner byte text n a b c ha hb hc false true e f g =
    let (m, some, size) = from_map 2 b n g in
    opening inner m n (byte ∷ text) (drop 1 text) (begun (byte ∷ text) 47 42 f) size (subst (λ i. Closes (suc i) (drop 1 text) m) (add-one inner) (hb m some))
by_front inner byte text n a b c ha hb hc false false e f g =
    let (m, some, size) = from_map 1 c n g in
    let none : neither_opens_nor_closes (byte ∷ text) ≡ true = rw (e, f) refl in
    plain inner m n byte text none size (hc m some)

closed : (steps inner : ℕ) (text : List ℕ) (n : ℕ) → comment_end steps inner text ≡ Some n → Closes (suc inner) text n
unfolding comment_end
closed zero inner text n e = absurd (cc)
closed (suc steps) inner [] n e = absurd (nothing (sym (comment_end-empty (suc steps) inner) ∙ e))
  where
    nothing : None ≡ Some n → ⊥
    nothing e = absurd (cc)
closed (suc steps) inner (byte ∷ text) n e =
    by_front inner byte text n (comment_end steps (inner - 1) (drop 1 text)) (comment_end steps (inner + 1) (drop 1 text)) (comment_end steps inner text)
    (closed steps (inner - 1) (drop 1 text)) (closed steps (inner + 1) (drop 1 text)) (closed steps inner text)
    (begins (byte ∷ text) (codes "*/")) (begins (byte ∷ text) (codes "/*")) refl refl e

whole : (text : List ℕ) (n : ℕ) → Closes 1 text n → IsComment (take (2 + n) (codes "/*" ++ text))
whole text n (parts, after, more, p, e, none, s) =
    let first = codes "/*" ++ (parts ++ codes "*/") in
    let size : 2 + n ≡ length first = omega (arith, s, none, comment_length parts) in
    let split : codes "/*" ++ text ≡ first ++ after = ap (λ t. codes "/*" ++ t) (e ∙ sym (append_assoc parts (codes "*/") after)) in
    subst IsComment (sym (ap (λ k. take k (codes "/*" ++ text)) size ∙ ap (take (length first)) split ∙ take-append_seam first after)) (comment p)

pub sound : (text : List ℕ) → IfSome (comment_size text) (λ size. IsComment (take size (codes "/*" ++ text)))
sound text = of (end_of 0 text) (closed (length text) 0 text)
  where
    of : (o : Option ℕ) → ((n : ℕ) → o ≡ Some n → Closes 1 text n) → IfSome (option_map (λ n. 2 + n) o) (λ size. IsComment (take size (codes "/*" ++ text)))
    of None h = tt
    of (Some n) h = whole text n (h n refl)
