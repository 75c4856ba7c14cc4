-- The number of each refusal, under which a program reports it, and its words. Assumes nothing.
use Rattle.std.specs.Prelude.{ℕ, List, codes}
use Rattle.base.specs.declared.refusal.Refusal.{Refusal}
use Rattle.base.specs.declared.refusal.Refusal.TheVariants as refusal

abbrev pub number : Refusal → ℕ
number refusal.FrameCount = 1
number refusal.PinPlaceCount = 2
number refusal.BufferLength = 3
number refusal.NoSuchSector = 4
number refusal.AlreadyPinned = 5
number refusal.PinPlacesTaken = 6
number refusal.DeadSector = 7
number refusal.FrameNotFilled = 8
number refusal.TraceTooLong = 9
number refusal.FieldCount = 10
number refusal.NotANumber = 11
number refusal.BadSize = 12
number refusal.BadOpcode = 13
number refusal.BadTimeStamp = 14
number refusal.PastLastSector = 15
number refusal.TooManyTouches = 16
number refusal.ListTooLong = 17
number refusal.TooFewPlaces = 18
number refusal.SmallerFrameCount = 19
number refusal.IndexFull = 20

-- what is refused, in plain words
abbrev pub words : Refusal → List ℕ
words refusal.FrameCount = codes "the number of frames is 0 or above 64"
words refusal.PinPlaceCount = codes "the number of pin places is above 8"
words refusal.BufferLength = codes "the sector buffer is not 512 bytes long"
words refusal.NoSuchSector = codes "the sector number is not below the sector count"
words refusal.AlreadyPinned = codes "the sector is pinned already"
words refusal.PinPlacesTaken = codes "all pin places are taken"
words refusal.DeadSector = codes "the sector is dead"
words refusal.FrameNotFilled = codes "the frame is not filled"
words refusal.TraceTooLong = codes "the trace is longer than 32768 bytes"
words refusal.FieldCount = codes "the line has other than five fields"
words refusal.NotANumber = codes "the field is not a number of 1 to 10 digits, or above its largest value"
words refusal.BadSize = codes "the size is not a multiple of 512 from 512 to 65536"
words refusal.BadOpcode = codes "the opcode is none of R, r, W and w"
words refusal.BadTimeStamp = codes "the time stamp is not 1 to 10 digits, nor these with a point and 1 to 9 digits behind"
words refusal.PastLastSector = codes "the last sector touched lies above 4294967295"
words refusal.TooManyTouches = codes "the touches so far exceed 4096"
words refusal.ListTooLong = codes "the list of keys is longer than 4096"
words refusal.TooFewPlaces = codes "a lent list has too few places"
words refusal.SmallerFrameCount = codes "the smaller number of frames is 0 or above the larger"
words refusal.IndexFull = codes "every slot of the index is taken"
