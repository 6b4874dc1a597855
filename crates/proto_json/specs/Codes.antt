-- What a reply says of a refusal.
use Rattle.std.specs.Prelude.{ℕ, List, codes}
use Rattle.proto_json.specs.declared.code.Code.{Code}
use Rattle.proto_json.specs.declared.code.Code.TheVariants.{InvalidRequest, UnknownRequest, InvalidParameter, InvalidFilePathFormat, InvalidOverlayChange, GetErrorsInvalidFile, ProfileLimit, ServerError}

-- the name of a code in a reply
abbrev pub name_of : Code → List ℕ
name_of InvalidRequest = codes "INVALID_REQUEST"
name_of UnknownRequest = codes "UNKNOWN_REQUEST"
name_of InvalidParameter = codes "INVALID_PARAMETER"
name_of InvalidFilePathFormat = codes "INVALID_FILE_PATH_FORMAT"
name_of InvalidOverlayChange = codes "INVALID_OVERLAY_CHANGE"
name_of GetErrorsInvalidFile = codes "GET_ERRORS_INVALID_FILE"
name_of ProfileLimit = codes "PROFILE_LIMIT"
name_of ServerError = codes "SERVER_ERROR"

-- the sentence that stands beside it
abbrev pub message_of : Code → List ℕ
message_of InvalidRequest = codes "The line is not a request."
message_of UnknownRequest = codes "The method is not known."
message_of InvalidParameter = codes "A parameter is missing or of another kind."
message_of InvalidFilePathFormat = codes "The path is not absolute and normalized."
message_of InvalidOverlayChange = codes "The change does not fit the overlay."
message_of GetErrorsInvalidFile = codes "The file is not analyzed."
message_of ProfileLimit = codes "A limit is passed."
message_of ServerError = codes "The file store failed."
