pub mod LineLaws
pub mod ShownLaws
pub mod ReportLength
-- what is printed, in document 02's words
pub mod FreshReport
pub mod PrintedLaws
-- closed cases
pub mod ReportCases
