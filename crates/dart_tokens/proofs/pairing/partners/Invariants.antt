use Rattle.std.proofs.Common.{◌≡◌, length, vec_len}
use Rattle.dart_tokens.proofs.AroundLemmas.{around_before}
use Rattle.dart_tokens.proofs.PartnerLemmas.{SoFar}
use Rattle.dart_tokens.proofs.pairing.partners.Given as goal

abbrev pub invariant-loop-token : goal.invariant-loop-token
invariant-loop-token l =
    record {
      end : l.pairing.end ≡ length l.tokens;
      around : l.pairing.around ≡ around_before l.token-index l.tokens;
      count : vec_len l.pairing.partner ≡ l.token-index;
      partner : SoFar l.token-index l.tokens l.pairing.partner.items;
    }
