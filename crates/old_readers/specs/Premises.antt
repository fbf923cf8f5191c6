-- THE PREMISES of demand 3: a build that was accepted, calls of `read`, and what the accepted ones were given (00: "each accepted read is given the build's kind, CRC switch,
-- channels and lengths (DSD: its number of positions), and lent the built header and trailer and, of the same frames of the given lengths, those it needs").
-- Assumes nothing.
use Rattle.std.specs.Prelude.{◌≡◌, Bool, List, [], ◌∷◌, map, ℕ, length, take, Ok, Err}
use Rattle.tree.specs.Gather.{Read, refused, accepted}
use Rattle.dst.specs.Frame.{Frame, dsd_sound}
use Rattle.prop_fields.specs.declared.compression.Sound.{Sound}
use Rattle.prop_fields.specs.declared.compression.Sound.TheVariants.{Dsd, Dst}
use Rattle.sound_reads.specs.Positions.{between}
use Rattle.sound_reads.specs.Lent.{codes, contents, Plain}
use Rattle.build_options.specs.Area.{area_positions}
use Rattle.build_options.specs.Inputs.{Inputs}
use Rattle.file_tree.specs.Sound.{Fits}
use Rattle.assemble.specs.Build.{Builds}
use Rattle.read_answer.specs.Answer.{ReadAnswer}
use Rattle.file_read.specs.Read.{Request, needed_for, Reads}

-- an accepted build: what it was given, what its two buffers held before and after, and the lengths that it answered, with all that a build promises
pub record AcceptedBuild : Type 0 where
  pub inputs : Inputs
  pub header_before : List ℕ
  pub header_buffer : List ℕ
  pub trailer_before : List ℕ
  pub trailer_buffer : List ℕ
  pub header_length : ℕ
  pub sound_length : ℕ
  pub trailer_length : ℕ
  pub promise : Builds inputs header_before header_buffer trailer_before trailer_buffer
      (Ok (record { header = header_length; sound = sound_length; trailer = trailer_length }))

-- a call of `read`: what it was given, what its buffer held before and after, and its answer, with all that a read promises
pub record Call : Type 0 where
  pub request : Request
  pub out : List ℕ
  pub last : List ℕ
  pub answer : ReadAnswer
  pub promise : Reads request out last answer

-- the frames of a recording, of the lengths that a build was given: of DSD a frame's bytes of content each; of DST as many DST bytes as the lengths say and, with CRC
-- on, a frame's bytes of content each
pub record Recorded (x : Inputs) (fs : List Frame) : Type 0 where
  pub fits : Fits x.area.sound x.area x.lengths fs
  pub plain : Plain x.options.dst_crc x.area.channels fs

-- of these frames a read was lent those that it needs: of DSD their contents joined, of DST their DST bytes joined and, with CRC on, their contents joined
abbrev pub Lent : Sound → Bool → List Frame → Request → ℕ → Type 0
Lent Dsd crc fs q room = q.contents ≡ dsd_sound (between (needed_for q room) (map (λ (f : Frame). f.content) fs))
Lent Dst crc fs q room = (q.frames ≡ codes (between (needed_for q room) fs)) × (q.contents ≡ contents crc (between (needed_for q room) fs))

-- a read was told the build's lengths; of DSD, its number of positions
abbrev pub Told : Sound → Inputs → Request → Type 0
Told Dsd x q = q.format.positions ≡ area_positions x.area
Told Dst x q = q.lengths ≡ x.lengths

-- a read of `room` bytes was given what the build was given and made, and lent the needed frames
pub record WasGiven (b : AcceptedBuild) (fs : List Frame) (q : Request) (room : ℕ) : Type 0 where
  pub kind : q.format.sound ≡ b.inputs.area.sound
  pub crc : q.format.crc ≡ b.inputs.options.dst_crc
  pub channels : q.format.channels ≡ b.inputs.area.channels
  pub lengths : Told b.inputs.area.sound b.inputs q
  pub header : q.header ≡ take b.header_length b.header_buffer
  pub trailer : q.trailer ≡ take b.trailer_length b.trailer_buffer
  pub frames : Lent b.inputs.area.sound b.inputs.options.dst_crc fs q room

-- if it was accepted; of a refused read nothing is assumed
abbrev pub IfAccepted : AcceptedBuild → List Frame → Request → ℕ → ReadAnswer → Type 0
IfAccepted b fs q room (Ok count) = WasGiven b fs q room
IfAccepted b fs q room (Err r) = Unit {0}

-- each of a list of calls
abbrev pub AllGiven : AcceptedBuild → List Frame → List Call → Type 0
AllGiven b fs [] = Unit {0}
AllGiven b fs (c ∷ cs) = IfAccepted b fs c.request (length c.out) c.answer × AllGiven b fs cs

-- what a call adds to what is gathered: the bytes that it filled, at its offset; nothing, if it was refused
abbrev pub read_by : ℕ → List ℕ → List ℕ → ReadAnswer → Read
read_by offset out last (Ok count) = accepted offset (length out) (take count last)
read_by offset out last (Err r) = refused

abbrev pub read_of : Call → Read
read_of c = read_by c.request.offset c.out c.last c.answer

abbrev pub reads_of : List Call → List Read
reads_of cs = map read_of cs
