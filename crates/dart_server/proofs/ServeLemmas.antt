-- A packages file that couldn't be read.
use Rattle.std.proofs.Common.{ℕ, List, Option, inl}
use Rattle.fault_io.specs.Stored.{Stored}
use Rattle.dart_server.specs.Output.{UnreadFile, Unserved, ServeFileOutput}
use Rattle.dart_server.specs.declared.status.Status.{Status}
use Rattle.dart_server.proofs.EndLemmas.{told_bytes, told_bytes_are}

-- what is written then, over the bytes that the store tells
pub unread_file : (file : List ℕ) (told : Option Stored) (from old new left : Option (List ℕ)) (faults faults' lists lists' reads reads' shortages shortages' : ℕ) (status : Status) → UnreadFile old new faults faults' shortages shortages' status → Unserved from left lists lists' reads reads' → ServeFileOutput file told from old new left faults faults' lists lists' reads reads' shortages shortages' status
unread_file file told from old new left faults faults' lists lists' reads reads' shortages shortages' status unread unserved = record {
  bytes = told_bytes told file;
  bytes_are = told_bytes_are told file;
  ends = inl (unread, unserved);
}
