-- What calls answer, by numbers, as the C header names them.
use Rattle.std.specs.Prelude.{ℕ}

-- it did what it says
abbrev pub DONE : ℕ
DONE = 0

-- nothing is kept at the handle
abbrev pub EMPTY : ℕ
EMPTY = 1

-- something is kept at the handle already
abbrev pub LIVE : ℕ
LIVE = 2

-- what is kept is of the other kind
abbrev pub OTHER_KIND : ℕ
OTHER_KIND = 3

-- an allocation was refused
abbrev pub NO_MEMORY : ℕ
NO_MEMORY = 4

-- the bytes are no UTF-8
abbrev pub NOT_UTF8 : ℕ
NOT_UTF8 = 5

-- it takes a larger buffer
abbrev pub SHORT_BUFFER : ℕ
SHORT_BUFFER = 6

-- what was asked for is refused, for a reason that is told beside
abbrev pub REFUSED : ℕ
REFUSED = 7

-- what came was refused, for a fault that is told beside
abbrev pub FAULT : ℕ
FAULT = 8

-- there is nothing at this place
abbrev pub NO_ITEM : ℕ
NO_ITEM = 9

-- ---- which kind is kept

abbrev pub NOTHING_KEPT : ℕ
NOTHING_KEPT = 0

abbrev pub A_DEBUGGER : ℕ
A_DEBUGGER = 1

abbrev pub A_TARGET : ℕ
A_TARGET = 2

-- ---- what is left behind packets

-- no bytes
abbrev pub NOTHING_LEFT : ℕ
NOTHING_LEFT = 0

-- the beginning of a packet, which calls for more bytes
abbrev pub BEGINNING_LEFT : ℕ
BEGINNING_LEFT = 1

-- a packet, for which there is no room
abbrev pub PACKET_LEFT : ℕ
PACKET_LEFT = 2

-- the beginning of no packet
abbrev pub FAULT_LEFT : ℕ
FAULT_LEFT = 3
