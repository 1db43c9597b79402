-- The error codes of reply packets (JDWP specification, "Error Constants").
use Rattle.jdwp_wire.specs.declared.error_code.ErrorCode.{ErrorCode}

abbrev pub NONE : ErrorCode
NONE = record { 0 = 0 }

abbrev pub INVALID_THREAD : ErrorCode
INVALID_THREAD = record { 0 = 10 }

abbrev pub INVALID_THREAD_GROUP : ErrorCode
INVALID_THREAD_GROUP = record { 0 = 11 }

abbrev pub THREAD_NOT_SUSPENDED : ErrorCode
THREAD_NOT_SUSPENDED = record { 0 = 13 }

abbrev pub INVALID_OBJECT : ErrorCode
INVALID_OBJECT = record { 0 = 20 }

abbrev pub INVALID_CLASS : ErrorCode
INVALID_CLASS = record { 0 = 21 }

abbrev pub CLASS_NOT_PREPARED : ErrorCode
CLASS_NOT_PREPARED = record { 0 = 22 }

abbrev pub INVALID_METHODID : ErrorCode
INVALID_METHODID = record { 0 = 23 }

abbrev pub INVALID_LOCATION : ErrorCode
INVALID_LOCATION = record { 0 = 24 }

abbrev pub INVALID_FIELDID : ErrorCode
INVALID_FIELDID = record { 0 = 25 }

abbrev pub INVALID_FRAMEID : ErrorCode
INVALID_FRAMEID = record { 0 = 30 }

abbrev pub TYPE_MISMATCH : ErrorCode
TYPE_MISMATCH = record { 0 = 34 }

abbrev pub INVALID_SLOT : ErrorCode
INVALID_SLOT = record { 0 = 35 }

abbrev pub INVALID_MODULE : ErrorCode
INVALID_MODULE = record { 0 = 42 }

abbrev pub NOT_IMPLEMENTED : ErrorCode
NOT_IMPLEMENTED = record { 0 = 99 }

abbrev pub ABSENT_INFORMATION : ErrorCode
ABSENT_INFORMATION = record { 0 = 101 }

abbrev pub INVALID_EVENT_TYPE : ErrorCode
INVALID_EVENT_TYPE = record { 0 = 102 }

abbrev pub ILLEGAL_ARGUMENT : ErrorCode
ILLEGAL_ARGUMENT = record { 0 = 103 }

abbrev pub OUT_OF_MEMORY : ErrorCode
OUT_OF_MEMORY = record { 0 = 110 }

abbrev pub INTERNAL : ErrorCode
INTERNAL = record { 0 = 113 }

abbrev pub INVALID_INDEX : ErrorCode
INVALID_INDEX = record { 0 = 503 }

abbrev pub INVALID_LENGTH : ErrorCode
INVALID_LENGTH = record { 0 = 504 }

abbrev pub INVALID_STRING : ErrorCode
INVALID_STRING = record { 0 = 506 }

abbrev pub INVALID_ARRAY : ErrorCode
INVALID_ARRAY = record { 0 = 508 }

abbrev pub INVALID_COUNT : ErrorCode
INVALID_COUNT = record { 0 = 512 }
