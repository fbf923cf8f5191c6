pub mod OrderLaws
pub mod MeetingLaws
pub mod CalendarExamples
