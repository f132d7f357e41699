mod Meanings
