-- A reply that was made and written is one that may be answered.
use Rattle.std.proofs.Common.{◌≡◌, ℕ, Bool, true, false, List, Option, None, Some, Result, Ok, Err, IfOk, unwrap_or, refl, sym, ap, ◌∙◌}
use Rattle.fault_io.specs.Stored.{Stored}
use Rattle.serve_loop.specs.Event.{line, too_long}
use Rattle.serve_loop.specs.Marks.{Tells}
use Rattle.proto_json.specs.Requests.{answer}
use Rattle.protocol_rules.specs.Answers.{request_uses_store, uses_store, MayAnswer}
use Rattle.protocol_rules.specs.Skipped.{is_skipped}
use Rattle.protocol_rules.specs.State.{State}
use Rattle.protocol_rules.specs.Turns.{bytes_of, invalid_turn}
use Rattle.request_core.specs.Said.{turn_of, IsHeard, IsAnswered}
use Rattle.request_core.specs.declared.said.Said.{Said}

module _ (told : Option Stored) (s : State) where
  -- a line that is skipped
  pub skipped_answer : (n : ℕ) (bytes : List ℕ) → is_skipped bytes ≡ true → IsAnswered told n n s (line bytes) None s
  skipped_answer n bytes skipped = record {
    mark = false;
    tells = refl;
    answers = record { turn = None; is_turn = rw skipped tt; reply_is = refl; after_is = refl };
  }

  -- the store may be used for a line that isn't skipped exactly where its request asks for it
  pub uses_of_line : (bytes : List ℕ) → is_skipped bytes ≡ false → uses_store (line bytes) ≡ request_uses_store (answer bytes)
  uses_of_line bytes kept = rw kept refl

  -- any other line
  pub heard_answer : (old new : ℕ) (bytes : List ℕ) (said : Said) (reply : Option (List ℕ)) (after : State) → is_skipped bytes ≡ false → IsHeard told old new s (answer bytes) said
      → ((other : State) → reply ≡ Some (bytes_of (turn_of said other))) → after ≡ unwrap_or said.after s → IsAnswered told old new s (line bytes) reply after
  heard_answer old new bytes said reply after kept heard written taken = record {
    mark = heard.mark;
    tells = rw (uses_of_line bytes kept) heard.tells;
    answers = record { turn = Some (turn_of said s); is_turn = rw kept heard.turn; reply_is = written s; after_is = taken };
  }

  -- a line that is too long
  pub long_answer : (reply : Option (List ℕ)) → reply ≡ Some (bytes_of (invalid_turn s)) → MayAnswer told s too_long false reply s
  long_answer reply written = record { turn = Some (invalid_turn s); is_turn = refl; reply_is = written; after_is = refl }

  -- whatever holds its bytes
  pub long_answered : {T E : Type 0} (n : ℕ) (bytes : T → Option (List ℕ)) (r : Result T E) → IfOk r (λ reply. bytes reply ≡ Some (bytes_of (invalid_turn s)))
      → IfOk r (λ reply. (mark : Bool) × Tells (uses_store too_long) mark n n × MayAnswer told s too_long mark (bytes reply) s)
  long_answered n bytes (Ok reply) written = (false, refl, long_answer (bytes reply) written)
  long_answered n bytes (Err error) written = tt
