-- The refusals in 01's order, with their numbers and details. Assumes nothing.
use mathlib.Core.Path.{◌≡◌, refl}
use mathlib.Core.List.{List, [], ◌∷◌, map}
use Prim.Native.Nat.{ℕ}
use Rattle.refusal.specs.declared.verdict.Refusal.{Refusal}
use Rattle.refusal.specs.declared.verdict.Refusal.TheVariants.{TooLarge, OutsidePool, NoScalar, CallerName, ReservedName, Playtime, Channels, ChannelsOfLayout, LengthsCount, FrameLength, Range, EmptyRange, NoSourceTrack, SourceTrackOutside, MasterRange, MasterLayout, MasterTracks, ShortTrack, TrackSpans, MasterEnd, MasterMarkers, MasterLsco, MasterEmid, Replacement, ChannelNumbersCount, ChannelNumberTooLarge, ChannelNumberTwice, PropertyOrder, Start, InfoOrder, EmidByte, Marker, MarkerText, CommentDate, CommentReference, CommentsCount, LocalOrderRepeats, LocalOrderLacks, SoundBeforeProperty, HeaderRoom, TrailerRoom, Format, NotLent, NoDate}
use Rattle.refusal.specs.Verdict.{refusal_number, refusal_detail}

-- of the three that have a detail with one of their own
abbrev pub in_order : List Refusal
in_order =
    TooLarge ∷ OutsidePool ∷ NoScalar ∷ CallerName ∷ ReservedName ∷ Playtime
    ∷ Channels ∷ ChannelsOfLayout ∷ LengthsCount ∷ FrameLength ∷ Range ∷ EmptyRange
    ∷ NoSourceTrack ∷ SourceTrackOutside ∷ MasterRange ∷ MasterLayout ∷ MasterTracks ∷ (ShortTrack 1)
    ∷ TrackSpans ∷ MasterEnd ∷ MasterMarkers ∷ MasterLsco ∷ MasterEmid ∷ Replacement
    ∷ ChannelNumbersCount ∷ ChannelNumberTooLarge ∷ ChannelNumberTwice ∷ PropertyOrder ∷ Start ∷ InfoOrder
    ∷ EmidByte ∷ Marker ∷ MarkerText ∷ CommentDate ∷ CommentReference ∷ CommentsCount
    ∷ LocalOrderRepeats ∷ LocalOrderLacks ∷ SoundBeforeProperty ∷ (HeaderRoom 2) ∷ (TrailerRoom 3) ∷ Format
    ∷ NotLent ∷ NoDate
    ∷ []

pub numbers-in-order :
    map refusal_number in_order
    ≡ 1 ∷ 2 ∷ 3 ∷ 4 ∷ 5 ∷ 6 ∷ 7 ∷ 8 ∷ 9 ∷ 10 ∷ 11 ∷ 12 ∷ 13 ∷ 14 ∷ 15 ∷ 16 ∷ 17 ∷ 18 ∷ 19 ∷ 20 ∷ 21 ∷ 22 ∷ 23 ∷ 24 ∷ 25 ∷ 26 ∷ 27 ∷ 28 ∷ 29 ∷ 30 ∷ 31 ∷ 32 ∷ 33 ∷ 34 ∷ 35 ∷ 36 ∷ 37 ∷ 38 ∷ 39 ∷ 40 ∷ 41 ∷ 42 ∷ 43 ∷ 46 ∷ []
numbers-in-order = refl

pub details-in-order :
    map refusal_detail in_order
    ≡ 0 ∷ 0 ∷ 0 ∷ 0 ∷ 0 ∷ 0 ∷ 0 ∷ 0 ∷ 0 ∷ 0 ∷ 0 ∷ 0 ∷ 0 ∷ 0 ∷ 0 ∷ 0 ∷ 0 ∷ 1 ∷ 0 ∷ 0 ∷ 0 ∷ 0 ∷ 0 ∷ 0 ∷ 0 ∷ 0 ∷ 0 ∷ 0 ∷ 0 ∷ 0 ∷ 0 ∷ 0 ∷ 0 ∷ 0 ∷ 0 ∷ 0 ∷ 0 ∷ 0 ∷ 0 ∷ 2 ∷ 3 ∷ 0 ∷ 0 ∷ 0 ∷ []
details-in-order = refl
