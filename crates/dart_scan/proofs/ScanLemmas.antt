-- One turn of the scanner.
use Rattle.std.proofs.Common.{◌≡◌, ℕ, ◌+◌, ◌<◌, ◌≤◌, Bool, true, false, List, [], ◌∷◌, ◌++◌, length, take, drop, get_or, All, if◌then◌else◌, refl, sym, ap, ◌∙◌, subst, arith, append_assoc, append-nil}
use Rattle.std.specs.List.{sum_by}
use Rattle.std.specs.Str.{IsUtf8, IsCharBoundary}
use Rattle.std.proofs.lemmas.List.{drop_more, drop_all, drop-drop}
use Rattle.std.proofs.lemmas.List.Sums.{sum_by-drop_more, sum_by_more, sum_by-cons}
use Rattle.std.proofs.lemmas.Str.{IsCharBoundary-from_take}
use Rattle.dart_tokens.specs.declared.token.Token.{Token}
use Rattle.dart_tokens.specs.declared.scanned.LexFault.{LexFault}
use Rattle.plain_text.specs.Units.{units_in}
use Rattle.dart_scan.specs.declared.piece.Class.TheVariants.{Gap}
use Rattle.dart_scan.specs.declared.piece.Piece.{Piece}
use Rattle.dart_scan.specs.Pieces.{Spelled, spelled, pieces as pieces_of}
use Rattle.dart_scan.specs.Faults.{faults_of_piece}
use Rattle.dart_scan.specs.Scanned.{Lexeme, is_gap, lexemes_from, with_word, words_behind, token_of, tokens_behind, faults_from, tokens_of, words_of, faults_of}
use Rattle.dart_scan.specs.StringTexts.{AreTexts}

-- the pieces from a place on, spelled
abbrev pub ahead : List Piece → (at : ℕ) → List ℕ → List Spelled
ahead pieces at rest = spelled (drop at pieces) rest

-- a turn: the next piece, its bytes, what comes after it, and where it ends
pub record Turn (pieces : List Piece) (at : ℕ) (piece : Piece) (start : ℕ) (rest bytes after : List ℕ) (end : ℕ) : Type 0 where
  pub within : at < length pieces
  pub here : piece ≡ get_or pieces at piece
  pub front : bytes ≡ take piece.size rest
  pub back : after ≡ drop piece.size rest
  pub end_is : end ≡ start + units_in bytes

next_is : (pieces : List Piece) (at : ℕ) (piece : Piece) → at < length pieces → piece ≡ get_or pieces at piece → drop at pieces ≡ piece ∷ drop (at + 1) pieces
next_is pieces at piece within here = drop_more pieces at piece within ∙ ap (λ p. p ∷ drop (at + 1) pieces) (sym here)

spelled-step : (piece : Piece) (more : List Piece) (rest : List ℕ) → spelled (piece ∷ more) rest ≡ (piece.class, take piece.size rest) ∷ spelled more (drop piece.size rest)
unfolding spelled
spelled-step piece more rest = refl

ahead-turn : (pieces : List Piece) (at : ℕ) (piece : Piece) (start : ℕ) (rest bytes after : List ℕ) (end : ℕ) → Turn pieces at piece start rest bytes after end
    → ahead pieces at rest ≡ (piece.class, bytes) ∷ ahead pieces (at + 1) after
ahead-turn pieces at piece start rest bytes after end t =
    ap (λ ps. spelled ps rest) (next_is pieces at piece t.within t.here) ∙ spelled-step piece (drop (at + 1) pieces) rest
    ∙ ap (λ bs. (piece.class, bs) ∷ ahead pieces (at + 1) (drop piece.size rest)) (sym t.front)
    ∙ ap (λ more. (piece.class, bytes) ∷ ahead pieces (at + 1) more) (sym t.back)

abbrev lexeme_in : ℕ → Piece → List ℕ → Lexeme
lexeme_in start piece bytes = record { class = piece.class; start = start; bytes = bytes }

-- the lexemes from a place on
abbrev pub lexemes_ahead : List Piece → (at start : ℕ) → List ℕ → (later : List Spelled) → List Lexeme
lexemes_ahead pieces at start rest later = lexemes_from start (ahead pieces at rest ++ later)

lexemes-step : (start : ℕ) (piece : Piece) (bytes : List ℕ) (more : List Spelled) → lexemes_from start ((piece.class, bytes) ∷ more)
    ≡ (if is_gap piece.class then lexemes_from (start + units_in bytes) more else lexeme_in start piece bytes ∷ lexemes_from (start + units_in bytes) more)
unfolding lexemes_from
lexemes-step start piece bytes more = refl

lexemes-turn : (pieces : List Piece) (at : ℕ) (piece : Piece) (start : ℕ) (rest bytes after : List ℕ) (end : ℕ) → Turn pieces at piece start rest bytes after end
    → (later : List Spelled) → lexemes_ahead pieces at start rest later ≡ (if is_gap piece.class then lexemes_ahead pieces (at + 1) end after later else lexeme_in start piece bytes ∷ lexemes_ahead pieces (at + 1) end after later)
lexemes-turn pieces at piece start rest bytes after end t later =
    let more : List Spelled = ahead pieces (at + 1) after ++ later in
    ap (λ ps. lexemes_from start (ps ++ later)) (ahead-turn pieces at piece start rest bytes after end t) ∙ lexemes-step start piece bytes more
    ∙ ap (λ e. if is_gap piece.class then lexemes_from e more else lexeme_in start piece bytes ∷ lexemes_from e more) (sym t.end_is)

tokens-chosen : (b : Bool) (done : List Token) (words words' : List (List ℕ)) (l : Lexeme) (more : List Lexeme) → words' ≡ (if b then words else with_word words l.bytes)
    → done ++ tokens_behind words (if b then more else l ∷ more) ≡ (if b then done else done ++ token_of words l ∷ []) ++ tokens_behind words' more
unfolding tokens_behind
tokens-chosen true done words words' l more e = rw e refl
tokens-chosen false done words words' l more e = rw (e, append_assoc done (token_of words l ∷ []) (tokens_behind (with_word words l.bytes) more)) refl

words-chosen : (b : Bool) (words words' : List (List ℕ)) (l : Lexeme) (more : List Lexeme) → words' ≡ (if b then words else with_word words l.bytes)
    → words_behind words (if b then more else l ∷ more) ≡ words_behind words' more
unfolding words_behind
words-chosen true words words' l more e = rw e refl
words-chosen false words words' l more e = rw e refl

pub tokens-turn : (pieces : List Piece) (at : ℕ) (piece : Piece) (start : ℕ) (rest bytes after : List ℕ) (end : ℕ) (whole done done' : List Token) (words words' : List (List ℕ)) → Turn pieces at piece start rest bytes after end
    → done' ≡ (if is_gap piece.class then done else done ++ token_of words (lexeme_in start piece bytes) ∷ []) → words' ≡ (if is_gap piece.class then words else with_word words bytes)
    → (later : List Spelled) → whole ≡ done ++ tokens_behind words (lexemes_ahead pieces at start rest later) → whole ≡ done' ++ tokens_behind words' (lexemes_ahead pieces (at + 1) end after later)
tokens-turn pieces at piece start rest bytes after end whole done done' words words' t d w later e =
    e ∙ ap (λ ls. done ++ tokens_behind words ls) (lexemes-turn pieces at piece start rest bytes after end t later)
    ∙ tokens-chosen (is_gap piece.class) done words words' (lexeme_in start piece bytes) (lexemes_ahead pieces (at + 1) end after later) w
    ∙ ap (λ ts. ts ++ tokens_behind words' (lexemes_ahead pieces (at + 1) end after later)) (sym d)

pub words-turn : (pieces : List Piece) (at : ℕ) (piece : Piece) (start : ℕ) (rest bytes after : List ℕ) (end : ℕ) (whole words words' : List (List ℕ)) → Turn pieces at piece start rest bytes after end
    → words' ≡ (if is_gap piece.class then words else with_word words bytes)
    → (later : List Spelled) → whole ≡ words_behind words (lexemes_ahead pieces at start rest later) → whole ≡ words_behind words' (lexemes_ahead pieces (at + 1) end after later)
words-turn pieces at piece start rest bytes after end whole words words' t w later e =
    e ∙ ap (words_behind words) (lexemes-turn pieces at piece start rest bytes after end t later)
    ∙ words-chosen (is_gap piece.class) words words' (lexeme_in start piece bytes) (lexemes_ahead pieces (at + 1) end after later) w

-- the faults from a place on
abbrev pub faults_ahead : List Piece → (at start : ℕ) → List ℕ → (later : List Spelled) → List LexFault
faults_ahead pieces at start rest later = faults_from start (ahead pieces at rest ++ later)

faults-step : (start : ℕ) (piece : Piece) (bytes : List ℕ) (more : List Spelled) → faults_from start ((piece.class, bytes) ∷ more) ≡ faults_of_piece piece.class start bytes ++ faults_from (start + units_in bytes) more
unfolding faults_from
faults-step start piece bytes more = refl

pub faults-turn : (pieces : List Piece) (at : ℕ) (piece : Piece) (start : ℕ) (rest bytes after : List ℕ) (end : ℕ) (whole done done' : List LexFault) → Turn pieces at piece start rest bytes after end
    → done' ≡ done ++ faults_of_piece piece.class start bytes
    → (later : List Spelled) → whole ≡ done ++ faults_ahead pieces at start rest later → whole ≡ done' ++ faults_ahead pieces (at + 1) end after later
faults-turn pieces at piece start rest bytes after end whole done done' t d later e =
    let here = faults_of_piece piece.class start bytes in
    let more = faults_ahead pieces (at + 1) end after later in
    e ∙ ap (λ fs. done ++ fs) (ap (λ ps. faults_from start (ps ++ later)) (ahead-turn pieces at piece start rest bytes after end t) ∙ faults-step start piece bytes (ahead pieces (at + 1) after ++ later)
    ∙ ap (λ e. here ++ faults_from e (ahead pieces (at + 1) after ++ later)) (sym t.end_is))
    ∙ sym (append_assoc done here more) ∙ ap (λ fs. fs ++ more) (sym d)

-- the pieces ahead are texts, and so is the next one
pub texts-next : (pieces : List Piece) (at : ℕ) (piece : Piece) (rest : List ℕ) → at < length pieces → piece ≡ get_or pieces at piece → AreTexts (ahead pieces at rest)
    → IsUtf8 (take piece.size rest) × AreTexts (ahead pieces (at + 1) (drop piece.size rest))
texts-next pieces at piece rest within here h =
    subst AreTexts (ap (λ ps. spelled ps rest) (next_is pieces at piece within here) ∙ spelled-step piece (drop (at + 1) pieces) rest) h

pub size-next : (pieces : List Piece) (at : ℕ) (piece : Piece) → at < length pieces → piece ≡ get_or pieces at piece → sum_by (λ p. p.size) (drop at pieces) ≡ piece.size + sum_by (λ p. p.size) (drop (at + 1) pieces)
size-next pieces at piece within here =
    sum_by-drop_more (λ p. p.size) pieces at piece within ∙ ap (λ p. p.size + sum_by (λ q. q.size) (drop (at + 1) pieces)) (sym here)

-- the next piece ends where a character ends
pub next_boundary : (pieces : List Piece) (at : ℕ) (piece : Piece) (rest : List ℕ) → at < length pieces → piece ≡ get_or pieces at piece → sum_by (λ p. p.size) (drop at pieces) ≤ length rest → IsUtf8 rest → AreTexts (ahead pieces at rest)
    → IsCharBoundary rest piece.size
next_boundary pieces at piece rest within here cover utf8 texts =
    IsCharBoundary-from_take rest piece.size utf8 (omega (arith, size-next pieces at piece within here, cover)) (texts-next pieces at piece rest within here texts).0

-- the pieces up to a place, and the bytes that they take, make way for those behind it
pub size-from : (pieces : List Piece) (at : ℕ) (piece : Piece) (text rest : List ℕ) → at < length pieces → piece ≡ get_or pieces at piece → rest ≡ drop (sum_by (λ p. p.size) (take at pieces)) text
    → drop piece.size rest ≡ drop (sum_by (λ p. p.size) (take (at + 1) pieces)) text
size-from pieces at piece text rest within here e =
    let more : sum_by (λ (p : Piece). p.size) (take (at + 1) pieces) ≡ sum_by (λ (p : Piece). p.size) (take at pieces) + piece.size = sum_by_more (λ (p : Piece). p.size) pieces at piece within ∙ ap (λ (p : Piece). sum_by (λ (q : Piece). q.size) (take at pieces) + p.size) (sym here) in
    ap (drop piece.size) e ∙ drop-drop piece.size (sum_by (λ (p : Piece). p.size) (take at pieces)) text ∙ ap (λ n. drop n text) (sym more)

-- nothing of a run is ahead at its end
pub ahead-end : (pieces : List Piece) (at : ℕ) (rest : List ℕ) → length pieces ≤ at → ahead pieces at rest ≡ []
unfolding spelled
ahead-end pieces at rest h = ap (λ ps. spelled ps rest) (drop_all at pieces h)

-- pieces before and behind others are texts
pub texts-parts : (first others : List Spelled) → AreTexts (first ++ others) → AreTexts first × AreTexts others
texts-parts [] others h = (tt, h)
texts-parts (piece ∷ first) others h = let rest = texts-parts first others h.1 in ((h.0, rest.0), rest.1)

-- A run that was added, and pieces behind it.

pub tokens-run : (pieces : List Piece) (at start : ℕ) (rest : List ℕ) (later : List Spelled) (whole done : List Token) (words : List (List ℕ)) → length pieces ≤ at
    → whole ≡ done ++ tokens_behind words (lexemes_ahead pieces at start rest later) → whole ≡ done ++ tokens_behind words (lexemes_from start later)
tokens-run pieces at start rest later whole done words h e = e ∙ ap (λ ps. done ++ tokens_behind words (lexemes_from start (ps ++ later))) (ahead-end pieces at rest h)

pub words-run : (pieces : List Piece) (at start : ℕ) (rest : List ℕ) (later : List Spelled) (whole words : List (List ℕ)) → length pieces ≤ at
    → whole ≡ words_behind words (lexemes_ahead pieces at start rest later) → whole ≡ words_behind words (lexemes_from start later)
words-run pieces at start rest later whole words h e = e ∙ ap (λ ps. words_behind words (lexemes_from start (ps ++ later))) (ahead-end pieces at rest h)

pub faults-run : (pieces : List Piece) (at start : ℕ) (rest : List ℕ) (later : List Spelled) (whole done : List LexFault) → length pieces ≤ at
    → whole ≡ done ++ faults_ahead pieces at start rest later → whole ≡ done ++ faults_from start later
faults-run pieces at start rest later whole done h e = e ∙ ap (λ ps. done ++ faults_from start (ps ++ later)) (ahead-end pieces at rest h)

-- All pieces are to come at the start, and none at the end.

pub tokens-begin : (text : List ℕ) (come : List Spelled) (done : List Token) (words : List (List ℕ)) → come ≡ pieces_of text → done ≡ [] → words ≡ [] → tokens_of text ≡ done ++ tokens_behind words (lexemes_from 0 come)
tokens-begin text come done words c d w = rw (c, d, w) refl

pub words-begin : (text : List ℕ) (come : List Spelled) (words : List (List ℕ)) → come ≡ pieces_of text → words ≡ [] → words_of text ≡ words_behind words (lexemes_from 0 come)
words-begin text come words c w = rw (c, w) refl

pub faults-begin : (text : List ℕ) (come : List Spelled) (done : List LexFault) → come ≡ pieces_of text → done ≡ [] → faults_of text ≡ done ++ faults_from 0 come
faults-begin text come done c d = rw (c, d) refl

pub tokens-end : (come : List Spelled) (start : ℕ) (whole done : List Token) (words : List (List ℕ)) → come ≡ [] → whole ≡ done ++ tokens_behind words (lexemes_from start come) → done ≡ whole
unfolding tokens_behind lexemes_from
tokens-end come start whole done words c e = sym (e ∙ ap (λ ps. done ++ tokens_behind words (lexemes_from start ps)) c ∙ append-nil done)

pub words-end : (come : List Spelled) (start : ℕ) (whole words : List (List ℕ)) → come ≡ [] → whole ≡ words_behind words (lexemes_from start come) → words ≡ whole
unfolding words_behind lexemes_from
words-end come start whole words c e = sym (e ∙ ap (λ ps. words_behind words (lexemes_from start ps)) c)

pub faults-end : (come : List Spelled) (start : ℕ) (whole done : List LexFault) → come ≡ [] → whole ≡ done ++ faults_from start come → done ≡ whole
unfolding faults_from
faults-end come start whole done c e = sym (e ∙ ap (λ ps. done ++ faults_from start ps) c ∙ append-nil done)

-- some pieces have some bytes
pub some-size : (pieces : List Piece) → All (λ piece. 0 < piece.size) pieces → 0 < length pieces → 0 < sum_by (λ (p : Piece). p.size) pieces
some-size [] all some = absurd (omega (arith, some))
some-size (piece ∷ pieces) all some = let first : 0 < piece.size = all 0 (record { class = Gap; size = 0 }) (omega arith) in omega (arith, sum_by-cons (λ (p : Piece). p.size) piece pieces, first)

pub no_pieces : (pieces : List Piece) → length pieces ≡ 0 → pieces ≡ []
no_pieces [] e = refl
no_pieces (piece ∷ pieces) e = absurd (omega (arith, e))
