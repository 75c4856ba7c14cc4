-- What an image disk means. Assumes nothing.
use Rattle.std.specs.Prelude.{ℕ, ◌+◌, ◌*◌, ◌/◌, min, ◌&&◌, List, ◌++◌, length, take, drop, nat_lt}
use Rattle.base.specs.Lists.{member}
use Rattle.base.specs.declared.limits.TheConstants.{SECTOR_BYTES}
use Rattle.disk.specs.Meaning.{Meaning, largest_count}
use Rattle.disk.specs.declared.image.ImageDisk.{ImageDisk}

-- the whole sectors of an image, as many as a disk can have
abbrev pub whole_sectors : List ℕ → ℕ
whole_sectors image = min (length image / SECTOR_BYTES) largest_count

-- the bytes of a sector of an image
abbrev pub sector_of : List ℕ → ℕ → List ℕ
sector_of image x = take SECTOR_BYTES (drop (x * SECTOR_BYTES) image)

-- an image with the bytes of one sector replaced
abbrev pub image_written : List ℕ → ℕ → List ℕ → List ℕ
image_written image x buffer = take (x * SECTOR_BYTES) image ++ (buffer ++ drop (x * SECTOR_BYTES + SECTOR_BYTES) image)

-- a disk over an image, with the listed sectors dead
abbrev pub image_of : List ℕ → List ℕ → ℕ → ℕ → Meaning
image_of image dead reads writes = record {
  count = whole_sectors image;
  bytes = sector_of image;
  dead = λ x. nat_lt x (whole_sectors image) && member x dead;
  reads = reads;
  writes = writes;
}

abbrev pub imaged : ImageDisk → Meaning
imaged d = image_of d.image.now d.dead.now d.tallies.reads d.tallies.writes
