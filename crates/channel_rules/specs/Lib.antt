pub mod ChannelNumbers
