pub mod PostfixMarks
